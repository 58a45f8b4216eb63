-- Settings, what is asked, and options are what their fields are.
use Rattle.std.proofs.Common.{◌≡◌, ◌∙◌, ℕ, Bool, ap, ap₂, subst}
use Rattle.std.proofs.Props.{props}
use Rattle.obim_engine.specs.Settings.{AreSettings, shift_of}
use Rattle.obim_engine.specs.declared.settings.Buckets.{Buckets}
use Rattle.obim_engine.specs.declared.settings.Settings.{Settings}
use Rattle.least_costs.specs.declared.plan.AtOnce.{AtOnce}
use Rattle.least_costs.specs.declared.plan.HierarchyUse.{HierarchyUse}
use Rattle.job_answer.specs.Choices.{IsAsked}
use Rattle.job_answer.specs.declared.question.asked.Answer.{Answer}
use Rattle.job_answer.specs.declared.question.asked.Asked.{Asked}
use Rattle.job_answer.specs.declared.question.asked.Lines.{Lines}
use Rattle.job_answer.specs.declared.question.asked.Lines.TheVariants.{Each, Within, Raw, Totals}
use Rattle.command_line.specs.declared.options.Options.{Options}

-- settings of these fields
abbrev settings_of : (workers : ℕ) (buckets : Buckets) (chunk : ℕ) → AreSettings workers (shift_of buckets) chunk
    → Settings
settings_of workers buckets chunk is = record { workers = workers; buckets = buckets; chunk = chunk; within = is }

one_limit : (workers shift chunk : ℕ) (is too : AreSettings workers shift chunk) → is ≡ too
one_limit workers shift chunk is too =
    let only : IsProp (AreSettings workers shift chunk) = hlevel props in only is too

pub same_settings : (one other : Settings) → one.workers ≡ other.workers → one.buckets ≡ other.buckets
    → one.chunk ≡ other.chunk → one ≡ other
same_settings one other workers buckets chunk =
    subst (λ (w : ℕ). (is : AreSettings w (shift_of other.buckets) other.chunk)
    → one ≡ settings_of w other.buckets other.chunk is) workers
    (subst (λ (b : Buckets). (is : AreSettings one.workers (shift_of b) other.chunk)
    → one ≡ settings_of one.workers b other.chunk is) buckets
    (subst (λ (n : ℕ). (is : AreSettings one.workers (shift_of one.buckets) n)
    → one ≡ settings_of one.workers one.buckets n is) chunk
    (λ is. ap (settings_of one.workers one.buckets one.chunk) (one_limit _ _ _ one.within is)))) other.within

-- what is asked, of these fields
abbrev asked_of : (answer : Answer) (lines_are : Lines) (settings : Settings) (limit : ℕ) (at_once : AtOnce)
    (landmarks : ℕ) (hierarchy : HierarchyUse) (saves : Bool) → IsAsked answer lines_are limit → Asked
asked_of answer lines_are settings limit at_once landmarks hierarchy saves is = record {
  answer = answer;
  lines = lines_are;
  settings = settings;
  limit = limit;
  at_once = at_once;
  landmarks = landmarks;
  hierarchy = hierarchy;
  saves = saves;
  within = is;
}

one_asked : (answer : Answer) (lines_are : Lines) (limit : ℕ) (is too : IsAsked answer lines_are limit) → is ≡ too
one_asked answer (Each walks) limit is too =
    let only : IsProp (IsAsked answer (Each walks) limit) = hlevel props in only is too
one_asked answer (Within walks bound) limit is too =
    let only : IsProp (IsAsked answer (Within walks bound) limit) = hlevel props in only is too
one_asked answer (Raw pairs) limit is too =
    let only : IsProp (IsAsked answer (Raw pairs) limit) = hlevel props in only is too
one_asked answer Totals limit is too =
    let only : IsProp (IsAsked answer Totals limit) = hlevel props in only is too

-- one is what has these fields, however it is within its limits
abbrev HasFields : Asked → Answer → Lines → Settings → ℕ → AtOnce → ℕ → HierarchyUse → Bool → Type 0
HasFields one answer lines_are settings limit at_once landmarks hierarchy saves =
    (is : IsAsked answer lines_are limit)
    → one ≡ asked_of answer lines_are settings limit at_once landmarks hierarchy saves is

pub same_asked : (one other : Asked) → one.answer ≡ other.answer → one.lines ≡ other.lines
    → one.settings ≡ other.settings → one.limit ≡ other.limit → one.at_once ≡ other.at_once
    → one.landmarks ≡ other.landmarks → one.hierarchy ≡ other.hierarchy → one.saves ≡ other.saves → one ≡ other
same_asked one other answer lines_are settings limit at_once landmarks hierarchy saves =
    subst (λ (x : Answer). HasFields one x other.lines other.settings other.limit other.at_once other.landmarks other.hierarchy other.saves)
    answer
    (subst (λ (x : Lines). HasFields one one.answer x other.settings other.limit other.at_once other.landmarks other.hierarchy other.saves)
    lines_are
    (subst (λ (x : Settings). HasFields one one.answer one.lines x other.limit other.at_once other.landmarks other.hierarchy other.saves)
    settings
    (subst (λ (x : ℕ). HasFields one one.answer one.lines one.settings x other.at_once other.landmarks other.hierarchy other.saves) limit
    (subst (λ (x : AtOnce). HasFields one one.answer one.lines one.settings one.limit x other.landmarks other.hierarchy other.saves) at_once
    (subst (λ (x : ℕ). HasFields one one.answer one.lines one.settings one.limit one.at_once x other.hierarchy other.saves) landmarks
    (subst (λ (x : HierarchyUse). HasFields one one.answer one.lines one.settings one.limit one.at_once one.landmarks x other.saves) hierarchy
    (subst (λ (x : Bool). HasFields one one.answer one.lines one.settings one.limit one.at_once one.landmarks one.hierarchy x) saves
    (λ is. ap (asked_of one.answer one.lines one.settings one.limit one.at_once one.landmarks one.hierarchy one.saves)
    (one_asked _ _ _ one.within is))))))))) other.within

-- options of these fields
abbrev options_of : (asked : Asked) (session stats progress explain typed : Bool) → Options
options_of asked session stats progress explain typed = record {
  asked = asked;
  session = session;
  stats = stats;
  progress = progress;
  explain = explain;
  typed = typed;
}

pub same_options : (one other : Options) → one.asked ≡ other.asked → one.session ≡ other.session
    → one.stats ≡ other.stats → one.progress ≡ other.progress → one.explain ≡ other.explain
    → one.typed ≡ other.typed → one ≡ other
same_options one other asked session stats progress explain typed =
    ap₂ (λ x y. options_of x y one.stats one.progress one.explain one.typed) asked session
    ∙ ap₂ (λ x y. options_of other.asked other.session x y one.explain one.typed) stats progress
    ∙ ap₂ (λ x y. options_of other.asked other.session other.stats other.progress x y) explain typed
