-- What values ask for is one thing.
use Rattle.std.proofs.Common.{◌≡◌, ◌∙◌, ℕ, ◌<◌, ◌==◌, Bool, true, false, List, Option, None, Some, if◌then◌else◌}
use Rattle.std.proofs.Common.{codes, refl, sym, ap, ap₂, subst, arith, length, slice_index, unwrap_or}
use Rattle.std.specs.Str.Parse.{IsNumeral, without_leading_plus}
use Rattle.clap.specs.Words.{Text}
use Rattle.obim_engine.specs.declared.settings.Settings.{Settings}
use Rattle.job_answer.specs.LineWalks.{bound_in, has_raw_pairs, has_walks, is_raw, is_totals}
use Rattle.job_answer.specs.declared.question.asked.Answer.{Answer}
use Rattle.job_answer.specs.declared.question.asked.Answer.TheVariants.{Distances, Levels, Components}
use Rattle.job_answer.specs.declared.question.asked.Lines.{Lines}
use Rattle.job_answer.specs.declared.question.asked.Lines.TheVariants.{Each, Within, Raw, Totals}
use Rattle.least_costs.specs.declared.network.landmarks.TheConstants.{MAX_LANDMARKS}
use Rattle.least_costs.specs.declared.plan.AtOnce.{AtOnce}
use Rattle.least_costs.specs.declared.plan.AtOnce.TheVariants as at_once
use Rattle.least_costs.specs.declared.plan.HierarchyUse.{HierarchyUse}
use Rattle.least_costs.specs.declared.plan.HierarchyUse.TheVariants as hierarchy_use
use Rattle.least_costs.specs.declared.plan.TheConstants.{USUAL_LANDMARKS}
use Rattle.command_line.specs.CommandLine.{AreHyphens, AsksAtOnce, AsksCost, AsksLandmarks, AsksLines, AsksNumber}
use Rattle.command_line.specs.CommandLine.{AsksSettings, IsAuto, IsFlag, IsNumeralOf, NamesKind, NamesLabels, buckets_for, name_of}
use Rattle.command_line.specs.CommandLine.{NamesUse, usual_chunk, word_of}
use Rattle.command_line.proofs.Same.{same_settings}

-- two bits that say the same are one
same_bit : (P : Type 0) (one other : Bool) → (P → one ≡ true) → (one ≡ true → P) → (P → other ≡ true)
    → (other ≡ true → P) → one ≡ other
same_bit P true other to from to_other from_other = sym (to_other (from refl))
same_bit P false true to from to_other from_other = to (from_other refl)
same_bit P false false to from to_other from_other = refl

-- the kind whose name begins with this letter
begins : ℕ → Answer
begins letter = if letter == 100 then Distances else (if letter == 108 then Levels else Components)

named : (kind : Answer) → begins (slice_index (name_of kind) 0) ≡ kind
unfolding begins
named Distances = refl
named Levels = refl
named Components = refl

pub one_kind : (text : Option Text) (one other : Answer) → NamesKind text one → NamesKind text other → one ≡ other
one_kind None one other is too = is ∙ sym too
one_kind (Some text) one other is too =
    sym (named one) ∙ ap (λ (name : Text). begins (slice_index name 0)) (sym is ∙ too) ∙ named other

pub one_form : (text : Option Text) (one other : Bool) → NamesLabels text one → NamesLabels text other → one ≡ other
one_form None one other is too = is ∙ sym too
one_form (Some text) true true is too = refl
one_form (Some text) false false is too = refl
one_form (Some text) true false is too =
    let bad = ap (λ (name : Text). slice_index name 0) (sym is ∙ too) in absurd (omega (arith, bad))
one_form (Some text) false true is too =
    let bad = ap (λ (name : Text). slice_index name 0) (sym is ∙ too) in absurd (omega (arith, bad))

pub one_flag : (text : Option Text) (one other : Bool) → IsFlag text one → IsFlag text other → one ≡ other
one_flag None one other is too = is ∙ sym too
one_flag (Some text) one other is too = same_bit (text ≡ codes "true") one other is.0 is.1 too.0 too.1

pub one_auto : (text : Option Text) (one other : Bool) → IsAuto text one → IsAuto text other → one ≡ other
one_auto None one other is too = is ∙ sym too
one_auto (Some text) one other is too = same_bit (text ≡ codes "auto") one other is.0 is.1 too.0 too.1

-- `auto` is no number
no_numeral : (text : Text) (number : ℕ) → text ≡ codes "auto" → IsNumeralOf text number → ⊥
no_numeral text number is too =
    let digits = subst (λ (word : Text). IsNumeral 10 (without_leading_plus word)) is too.0 in
    let low : 10 < 10 = digits.1.0 in omega arith

pub one_number : (has_auto : Bool) (least most : ℕ) (text : Option Text) (one other : Option ℕ)
    → AsksNumber has_auto least most text one → AsksNumber has_auto least most text other → one ≡ other
one_number has_auto least most None one other is too = is ∙ sym too
one_number has_auto least most (Some text) None None is too = refl
one_number has_auto least most (Some text) None (Some other) is too = absurd (no_numeral text other is.1 too.0)
one_number has_auto least most (Some text) (Some one) None is too = absurd (no_numeral text one too.1 is.0)
one_number has_auto least most (Some text) (Some one) (Some other) is too = ap Some (is.0.1 ∙ sym too.0.1)

pub one_cost : (text : Option Text) (one other : Option ℕ) → AsksCost text one → AsksCost text other → one ≡ other
one_cost None one other is too = is ∙ sym too
one_cost (Some text) None other is too = absurd is
one_cost (Some text) (Some one) None is too = absurd too
one_cost (Some text) (Some one) (Some other) is too = ap Some (is.0.1 ∙ sym too.0.1)

-- the number of sources at once that a plan has
most_of : AtOnce → Option ℕ
most_of at_once.Auto = None
most_of (at_once.Most number) = Some number

planned : Option ℕ → AtOnce
planned None = at_once.Auto
planned (Some number) = at_once.Most number

asks_most : (text : Option Text) (plan : AtOnce) → AsksAtOnce text plan → AsksNumber true 1 64 text (most_of plan)
unfolding most_of
asks_most text at_once.Auto asks = asks
asks_most text (at_once.Most number) asks = asks

plan_again : (plan : AtOnce) → planned (most_of plan) ≡ plan
unfolding most_of planned
plan_again at_once.Auto = refl
plan_again (at_once.Most number) = refl

pub one_plan : (text : Option Text) (one other : AtOnce) → AsksAtOnce text one → AsksAtOnce text other → one ≡ other
one_plan text one other is too =
    sym (plan_again one)
    ∙ ap planned (one_number true 1 64 text _ _ (asks_most text one is) (asks_most text other too)) ∙ plan_again other

pub one_landmarks : (text : Option Text) (one other : ℕ) → AsksLandmarks text one → AsksLandmarks text other → one ≡ other
one_landmarks text one other is too =
    is.most_is ∙ ap (λ number. unwrap_or number USUAL_LANDMARKS) (one_number false 0 MAX_LANDMARKS text _ _ is.asks too.asks)
    ∙ sym too.most_is

-- the use whose word has so many letters
use_by : ℕ → HierarchyUse
use_by count = if count == 4 then hierarchy_use.Auto else (if count == 2 then hierarchy_use.Never else hierarchy_use.Now)

use_again : (asked : HierarchyUse) → use_by (length (word_of asked)) ≡ asked
unfolding use_by
use_again hierarchy_use.Auto = refl
use_again hierarchy_use.Never = refl
use_again hierarchy_use.Now = refl

pub one_use : (text : Option Text) (one other : HierarchyUse) → NamesUse text one → NamesUse text other → one ≡ other
one_use None one other is too = is ∙ sym too
one_use (Some text) one other is too =
    sym (use_again one) ∙ ap (λ (name : Text). use_by (length name)) (sym is ∙ too) ∙ use_again other

-- the lines, by what is said of them
pub lines_by : Bool → Option ℕ → Bool → Bool → Bool → Lines
lines_by walks bound true pairs short = Raw pairs
lines_by walks bound false pairs true = Totals
lines_by walks None false pairs false = Each walks
lines_by walks (Some bound) false pairs false = Within walks bound

pub lines_again : (lines : Lines)
    → lines_by (has_walks lines) (bound_in lines) (is_raw lines) (has_raw_pairs lines) (is_totals lines) ≡ lines
unfolding lines_by
lines_again (Each walks) = refl
lines_again (Within walks bound) = refl
lines_again (Raw pairs) = refl
lines_again Totals = refl

pub same_lines : (one other : Lines) → has_walks one ≡ has_walks other → bound_in one ≡ bound_in other
    → is_raw one ≡ is_raw other → has_raw_pairs one ≡ has_raw_pairs other → is_totals one ≡ is_totals other → one ≡ other
same_lines one other walks bound bytes pairs short =
    let is = lines_again one in
    let too = lines_again other in
    sym is ∙ rw (walks, bound, bytes, pairs, short) too

pub one_hyphen : (texts : List Text) (one other : Bool) → AreHyphens texts one → AreHyphens texts other → one ≡ other
one_hyphen texts one other is too = is.1 ∙ sym too.1

pub one_settings : (workers shift chunk : Option Text) (one other : Settings)
    → AsksSettings workers shift chunk one → AsksSettings workers shift chunk other → one ≡ other
one_settings workers shift chunk one other is too =
    let counts : is.worker_count ≡ too.worker_count = one_number true 1 64 workers _ _ is.asks_workers too.asks_workers in
    let bits : is.shift_bits ≡ too.shift_bits = one_number true 0 63 shift _ _ is.asks_shift too.asks_shift in
    let sizes : is.chunk_size ≡ too.chunk_size = one_number false 1 256 chunk _ _ is.asks_chunk too.asks_chunk in
    let same : one.workers ≡ other.workers =
    is.workers_are ∙ ap (λ count. unwrap_or count 2) counts ∙ sym too.workers_are in
    same_settings one other same
    (is.buckets_are ∙ ap buckets_for bits ∙ sym too.buckets_are)
    (is.chunk_is ∙ ap₂ (λ size count. unwrap_or size (usual_chunk count)) sizes same ∙ sym too.chunk_is)

pub one_lines : (cost form flag : Option Text) (kind : Answer) (walks : Bool) (one other : Lines)
    → AsksLines cost form flag kind walks one → AsksLines cost form flag kind walks other → one ≡ other
one_lines cost form flag kind walks one other is too =
    same_lines one other (is.walked ∙ sym too.walked) (one_cost cost _ _ is.asks_within too.asks_within)
    (one_form form _ _ is.asks_labels too.asks_labels) (is.pairs ∙ sym too.pairs)
    (one_flag flag _ _ is.asks_totals too.asks_totals)
