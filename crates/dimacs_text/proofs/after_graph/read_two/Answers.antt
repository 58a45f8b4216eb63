use Rattle.std.proofs.Common.{◌≡◌, ◌<◌, ◌≤◌, Err, Ok, [], ◌∷◌, subst, sym}
use Rattle.dimacs_text.specs.declared.fault.LineKind.TheVariants.{Number, Range}
use Rattle.dimacs_text.specs.Lines.{fields}
use Rattle.dimacs_text.specs.Forms.{numbers_within}
use Rattle.dimacs_text.specs.AfterGraph.{within_limits}
use Rattle.dimacs_text.proofs.WithinLemmas.{bound_too_large, first_no_number, second_no_number, too_many_sources}
use Rattle.dimacs_text.proofs.WithinLemmas.{two_within, wrong_count}
use Rattle.dimacs_text.proofs.after_graph.read_two.Goals as goal

pub returns-in_default : goal.returns-in_default
returns-in_default c = wrong_count (fields c.args.args.now) c.in_default.ensures

pub returns-in_default-number_of : goal.returns-in_default-number_of
returns-in_default-number_of c =
    subst (λ fs. Err Number ≡ numbers_within within_limits fs) (sym c.in-Some.ensures)
    (first_no_number c.in-Some.first.now c.in-Some.second.now c.in_default-number_of.ensures)

pub returns-in_default-number_of-2 : goal.returns-in_default-number_of-2
returns-in_default-number_of-2 c =
    subst (λ fs. Err Number ≡ numbers_within within_limits fs) (sym c.in-Some.ensures)
    (second_no_number c.in-Some.first.now c.in-Some.second.now c.in_default-number_of-2.ensures)

pub returns-then-bound-ge-INF : goal.returns-then-bound-ge-INF
returns-then-bound-ge-INF c =
    subst (λ fs. Err Range ≡ numbers_within within_limits fs) (sym c.in-Some.ensures)
    (bound_too_large c.in-Some.first.now c.in-Some.second.now c.in-Some-number_of.bound c.in-Some-number_of-2.count
    c.in-Some-number_of.ensures c.in-Some-number_of-2.ensures c.if-bound-ge-INF.true)

pub returns-then-count-from : goal.returns-then-count-from
returns-then-count-from c =
    subst (λ fs. Err Range ≡ numbers_within within_limits fs) (sym c.in-Some.ensures)
    (too_many_sources c.in-Some.first.now c.in-Some.second.now c.in-Some-number_of.bound c.in-Some-number_of-2.count
    c.in-Some-number_of.ensures c.in-Some-number_of-2.ensures c.if-bound-ge-INF.false
    (subst (λ most. most < c.in-Some-number_of-2.count) c.from.ensures c.if-count-from.true))

pub returns : goal.returns
returns c =
    subst (λ fs. Ok (c.in-Some-number_of.bound ∷ c.in-Some-number_of-2.count ∷ []) ≡ numbers_within within_limits fs)
    (sym c.in-Some.ensures)
    (two_within c.in-Some.first.now c.in-Some.second.now c.in-Some-number_of.bound c.in-Some-number_of-2.count
    c.in-Some-number_of.ensures c.in-Some-number_of-2.ensures c.if-bound-ge-INF.false
    (subst (λ most. c.in-Some-number_of-2.count ≤ most) c.from.ensures c.if-count-from.false))
