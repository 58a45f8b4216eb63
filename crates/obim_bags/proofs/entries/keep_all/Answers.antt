-- One place more was taken.
use Rattle.std.proofs.Common.{◌≡◌, ◌∙◌, ap, List, ◌++◌, Some, append_assoc}
use Rattle.std.proofs.lemmas.List.Elements.{All-append, All-pop}
use Rattle.obim_bags.specs.Bags.{AreAdded, BagSeen, PassSeen, new_pass}
use Rattle.obim_bags.specs.Entries.{IsUnclaimed}
use Rattle.obim_bags.proofs.Totals.{shares_moved}
use Rattle.obim_bags.proofs.entries.keep_all.Goals as goal

added_more : (bag : BagSeen) (old mid new : List PassSeen) → AreAdded bag old mid → AreAdded bag mid new
    → AreAdded bag old new
added_more bag old mid new one two = record {
  added = one.added ++ two.added;
  last = two.last ∙ ap (λ (passes : List PassSeen). passes ++ two.added) one.last
      ∙ append_assoc old one.added two.added;
  are_new = All-append (λ (pass : PassSeen). pass ≡ new_pass bag) one.added two.added one.are_new two.are_new;
}

pub loop-place-preserved : goal.loop-place-preserved
loop-place-preserved c = record {
  rest = λ bag all.
      (All-pop (IsUnclaimed bag) _ _ (Some c.in-Some.place) c.in-Some.ensures.items
      (c.loop-place.invariant.rest bag all)).0;
  added = λ bag all.
      let popped = All-pop (IsUnclaimed bag) _ _ (Some c.in-Some.place) c.in-Some.ensures.items
      (c.loop-place.invariant.rest bag all) in
      added_more bag _ _ _ (c.loop-place.invariant.added bag all) (c.in_ok-keep.ensures.added bag popped.1);
  shares = shares_moved _ _ _ _ c.in-Some.place c.in-Some.ensures.items c.in_ok-keep.ensures.pass
      ∙ c.loop-place.invariant.shares;
}

pub returns-in_err-keep-clause-rest : goal.returns-in_err-keep-clause-rest
returns-in_err-keep-clause-rest c bag all =
    (All-pop (IsUnclaimed bag) _ _ (Some c.in-Some.place) c.in-Some.ensures.items
    (c.loop-place.invariant.rest bag all)).0
