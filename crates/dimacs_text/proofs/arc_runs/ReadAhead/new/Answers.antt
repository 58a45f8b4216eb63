use Rattle.std.proofs.Common.{All, sym, subst}
use Rattle.std.proofs.lemmas.List.Elements.{All-nil}
use Rattle.dimacs_text.specs.Reading.{AreRunsOf}
use Rattle.dimacs_text.proofs.arc_runs.ReadAhead.new.Goals as goal

pub returns : goal.returns
returns c bytes = record {
  one = c.new.ensures bytes;
  another = c.new-2.ensures bytes;
  others = subst (λ l. All (AreRunsOf bytes) l) (sym c.new-3.ensures.items) (All-nil (AreRunsOf bytes));
}
