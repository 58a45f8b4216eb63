-- What the words of a command line ask for.
--
-- Which words are values of which option is a matter of clap, whose `matches_of` says it of a command with these
-- arguments: long and short options, bundles of short ones, `=`, `--`, and the last use of an option counts.
use Rattle.std.specs.Prelude.{◌≡◌, ◌<◌, ◌≤◌, ◌⊎◌, ℕ, ⊤, Bool, true, false, List, [], ◌∷◌, length, codes, All}
use Rattle.std.specs.Prelude.{Option, Some, None, unwrap_or, nat_lt, ◌==◌, if◌then◌else◌}
use Rattle.std.specs.Str.Parse.{IsNumeral, digits_value, without_leading_plus}
use Rattle.clap.specs.Lexer.{usize_max}
use Rattle.clap.specs.Simple.{new_shape}
use Rattle.clap.specs.Words.{App, IsAmong, Row, Rule, Text, all_of, fault_of, first_of, matches_of, new_rule}
use Rattle.clap.specs.declared.error.kind.ErrorKind.{ErrorKind}
use Rattle.clap.specs.declared.error.kind.ErrorKind.TheVariants.{DisplayHelp, DisplayVersion}
use Rattle.clap.specs.declared.builder.action.ArgAction.TheVariants.{Append, SetTrue}
use Rattle.obim_engine.specs.declared.settings.Buckets.{Buckets}
use Rattle.obim_engine.specs.declared.settings.Buckets.TheVariants.{Even, Widening}
use Rattle.obim_engine.specs.declared.settings.TheConstants.{MAX_CHUNK, MAX_SHIFT, MAX_WORKERS}
use Rattle.obim_engine.specs.declared.settings.Settings.{Settings}
use Rattle.job_answer.specs.declared.question.asked.TheConstants.{MAX_AT_ONCE, MAX_BYTES}
use Rattle.route_walks.specs.declared.graph.TheConstants.{INF}
use Rattle.job_answer.specs.LineWalks.{bound_in, has_raw_pairs, has_walks, is_raw, is_totals}
use Rattle.job_answer.specs.declared.question.asked.Answer.{Answer}
use Rattle.job_answer.specs.declared.question.asked.Answer.TheVariants.{Distances, Levels, Components}
use Rattle.job_answer.specs.declared.question.asked.Lines.{Lines}
use Rattle.job_answer.specs.declared.question.asked.Lines.TheVariants.{Each}
use Rattle.least_costs.specs.declared.network.landmarks.TheConstants.{MAX_LANDMARKS}
use Rattle.least_costs.specs.declared.plan.AtOnce.{AtOnce}
use Rattle.least_costs.specs.declared.plan.AtOnce.TheVariants as at_once
use Rattle.least_costs.specs.declared.plan.HierarchyUse.{HierarchyUse}
use Rattle.least_costs.specs.declared.plan.HierarchyUse.TheVariants as hierarchy_use
use Rattle.least_costs.specs.declared.plan.TheConstants.{CHUNK_OF_TWO, SHARED_CHUNK, USUAL_LANDMARKS}
use Rattle.command_line.specs.declared.options.Options.{Options}
use Rattle.command_line.specs.declared.refusals.Refusal.{Refusal}
use Rattle.command_line.specs.declared.refusals.Refusal.TheVariants as refusal

-- ---- the arguments of the command

-- an option with a value, which is written `--name VALUE`
abbrev pub valued : Text → Rule
valued name = record (new_rule name) { long = Some name; value_names = 1 }

-- an option without a value
abbrev pub flag : Text → Rule
flag name = record (new_rule name) { long = Some name; action = Some SetTrue }

abbrev pub answer_rule : Rule
answer_rule = record (valued (codes "answer")) { short = Some 97; defaults = codes "distances" ∷ [] }

abbrev pub walks_rule : Rule
walks_rule = record (flag (codes "walks")) { short = Some 87 }

abbrev pub within_rule : Rule
within_rule = valued (codes "within")

abbrev pub labels_rule : Rule
labels_rule = record (valued (codes "labels")) { defaults = codes "text" ∷ [] }

abbrev pub workers_rule : Rule
workers_rule = record (valued (codes "workers")) { short = Some 119; defaults = codes "auto" ∷ [] }

abbrev pub at_once_rule : Rule
at_once_rule = record (valued (codes "at-once")) { defaults = codes "auto" ∷ [] }

abbrev pub landmarks_rule : Rule
landmarks_rule = valued (codes "landmarks")

abbrev pub hierarchy_rule : Rule
hierarchy_rule = record (valued (codes "hierarchy")) { defaults = codes "auto" ∷ [] }

abbrev pub shift_rule : Rule
shift_rule = record (valued (codes "shift")) { short = Some 115; defaults = codes "auto" ∷ [] }

abbrev pub chunk_rule : Rule
chunk_rule = record (valued (codes "chunk")) { short = Some 99 }

-- the words that are no options
abbrev pub operand_rule : Rule
operand_rule = record (new_rule (codes "operand")) {
  action = Some Append;
  range = Some (record { start_inclusive = 0; end_inclusive = usize_max });
}

abbrev pub program_rules : List Rule
program_rules = answer_rule ∷ walks_rule ∷ within_rule ∷ labels_rule ∷ flag (codes "totals") ∷ workers_rule
    ∷ at_once_rule ∷ landmarks_rule ∷ hierarchy_rule ∷ shift_rule ∷ chunk_rule ∷ flag (codes "session") ∷ flag (codes "progress") ∷ flag (codes "stats") ∷ flag (codes "explain") ∷ operand_rule
    ∷ []

-- a command with a version, and of an option that is given twice the last one counts
abbrev pub bare_program : App
bare_program = record {
  top = record (new_shape (codes "obim_query")) { has_version = true; args_override_self = true };
  subs = [];
}

-- the command: it has these arguments
abbrev pub program : App
program = record bare_program { top = record bare_program.top { rules = program_rules } }

-- ---- what their values ask for

-- the name of a kind of answer; without a name it is distances
abbrev pub name_of : Answer → Text
name_of Distances = codes "distances"
name_of Levels = codes "levels"
name_of Components = codes "components"

abbrev pub NamesKind : Option Text → Answer → Type 0
NamesKind None kind = kind ≡ Distances
NamesKind (Some text) kind = text ≡ name_of kind

-- labels are written as text, which is so without a value, or as bytes
abbrev pub NamesLabels : Option Text → Bool → Type 0
NamesLabels None is_raw = is_raw ≡ false
NamesLabels (Some text) true = text ≡ codes "raw"
NamesLabels (Some text) false = text ≡ codes "text"

-- decimal digits, perhaps after a plus sign, that write this number
abbrev pub IsNumeralOf : Text → ℕ → Type 0
IsNumeralOf text number =
    IsNumeral 10 (without_leading_plus text) × (number ≡ digits_value 10 (without_leading_plus text))

-- the text writes this number, which is one from `least` to `most`
abbrev pub IsNumberIn : ℕ → ℕ → Text → ℕ → Type 0
IsNumberIn least most text number = IsNumeralOf text number × (least ≤ number) × (number ≤ most)

-- The value is a number from `least` to `most`, or `auto` where that may be. There is no number without a value, nor at
-- `auto`.
abbrev pub AsksNumber : Bool → ℕ → ℕ → Option Text → Option ℕ → Type 0
AsksNumber has_auto least most None number = number ≡ None
AsksNumber has_auto least most (Some text) None = (has_auto ≡ true) × (text ≡ codes "auto")
AsksNumber has_auto least most (Some text) (Some number) = IsNumberIn least most text number

-- the value is a number below INF; there is none without a value
abbrev pub AsksCost : Option Text → Option ℕ → Type 0
AsksCost None cost = cost ≡ None
AsksCost (Some text) None = ⊥
AsksCost (Some text) (Some cost) = IsNumeralOf text cost × (cost < INF)

-- the flag is there
abbrev pub IsFlag : Option Text → Bool → Type 0
IsFlag None is_there = is_there ≡ false
IsFlag (Some text) is_there = (text ≡ codes "true" → is_there ≡ true) × (is_there ≡ true → text ≡ codes "true")

-- no number is asked for: there is no value, or it is `auto`
abbrev pub IsAuto : Option Text → Bool → Type 0
IsAuto None is_auto = is_auto ≡ true
IsAuto (Some text) is_auto = (text ≡ codes "auto" → is_auto ≡ true) × (is_auto ≡ true → text ≡ codes "auto")

-- each of the words that are no options is a hyphen, and whether there is one
abbrev pub AreHyphens : List Text → Bool → Type 0
AreHyphens operands typed = All (λ text. text ≡ codes "-") operands × (typed ≡ nat_lt 0 (length operands))

-- how many sources at once: a number, or as many as fit
abbrev pub AsksAtOnce : Option Text → AtOnce → Type 0
AsksAtOnce text at_once.Auto = AsksNumber true 1 MAX_AT_ONCE text None
AsksAtOnce text (at_once.Most number) = AsksNumber true 1 MAX_AT_ONCE text (Some number)

-- the most landmarks: a number, or as many as are usual
pub record AsksLandmarks (text : Option Text) (most : ℕ) : Type 0 where
  pub number : Option ℕ
  pub asks : AsksNumber false 0 MAX_LANDMARKS text number
  pub most_is : most ≡ unwrap_or number USUAL_LANDMARKS

-- the word for when a network is given a hierarchy; without a word it is `auto`
abbrev pub word_of : HierarchyUse → Text
word_of hierarchy_use.Auto = codes "auto"
word_of hierarchy_use.Never = codes "no"
word_of hierarchy_use.Now = codes "now"

abbrev pub NamesUse : Option Text → HierarchyUse → Type 0
NamesUse None asked = asked ≡ hierarchy_use.Auto
NamesUse (Some text) asked = text ≡ word_of asked

-- vertices of a chunk where none are asked for: one worker shares nothing, so its chunks are as large as they can be
abbrev pub usual_chunk : ℕ → ℕ
usual_chunk workers =
    if workers == 1 then MAX_CHUNK else (if workers == 2 then CHUNK_OF_TWO else SHARED_CHUNK)

-- even buckets where a shift is asked for, and else widening ones
abbrev pub buckets_for : Option ℕ → Buckets
buckets_for None = Widening
buckets_for (Some shift) = Even shift

-- The settings: of the values of `--workers`, `--shift` and `--chunk`.
pub record AsksSettings (workers shift chunk : Option Text) (settings : Settings) : Type 0 where
  pub worker_count : Option ℕ
  pub asks_workers : AsksNumber true 1 MAX_WORKERS workers worker_count
  pub workers_are : settings.workers ≡ unwrap_or worker_count 2
  pub shift_bits : Option ℕ
  pub asks_shift : AsksNumber true 0 MAX_SHIFT shift shift_bits
  pub buckets_are : settings.buckets ≡ buckets_for shift_bits
  pub chunk_size : Option ℕ
  pub asks_chunk : AsksNumber false 1 MAX_CHUNK chunk chunk_size
  pub chunk_is : settings.chunk ≡ unwrap_or chunk_size (usual_chunk settings.workers)

-- The lines: of the values of `--within`, `--labels` and `--totals`, for this kind of answer, with walks or not. The
-- components have the lines of all vertices, and pairs have text.
pub record AsksLines (within labels totals : Option Text) (kind : Answer) (walks : Bool) (lines : Lines) : Type 0 where
  pub walked : has_walks lines ≡ walks
  pub asks_within : AsksCost within (bound_in lines)
  pub asks_labels : NamesLabels labels (is_raw lines)
  pub asks_totals : IsFlag totals (is_totals lines)
  pub pairs : has_raw_pairs lines ≡ false
  pub plain : kind ≡ Components → lines ≡ Each walks

-- a session has neither figures nor progress
abbrev pub IsAlone : Bool → Bool → Bool → Type 0
IsAlone session stats progress = session ≡ true → (stats ≡ false) × (progress ≡ false)

-- the words that are no options
abbrev pub operands_in : List Row → List Text
operands_in rows = unwrap_or (all_of (codes "operand") rows) []

-- The options, of the values that each argument was given: `first_of` is its first value.
pub record AsksFor (rows : List Row) (options : Options) : Type 0 where
  pub answer : NamesKind (first_of (codes "answer") rows) options.asked.answer
  pub walks : IsFlag (first_of (codes "walks") rows) (has_walks options.asked.lines)
  pub lines : AsksLines (first_of (codes "within") rows) (first_of (codes "labels") rows)
      (first_of (codes "totals") rows) options.asked.answer (has_walks options.asked.lines) options.asked.lines
  pub settings : AsksSettings (first_of (codes "workers") rows) (first_of (codes "shift") rows)
      (first_of (codes "chunk") rows) options.asked.settings
  -- one worker works alone in a small graph, unless a number of them is asked for
  pub saves : IsAuto (first_of (codes "workers") rows) options.asked.saves
  pub at_once : AsksAtOnce (first_of (codes "at-once") rows) options.asked.at_once
  pub landmarks : AsksLandmarks (first_of (codes "landmarks") rows) options.asked.landmarks
  pub hierarchy : NamesUse (first_of (codes "hierarchy") rows) options.asked.hierarchy
  pub limit : options.asked.limit ≡ MAX_BYTES
  pub session : IsFlag (first_of (codes "session") rows) options.session
  pub stats : IsFlag (first_of (codes "stats") rows) options.stats
  pub progress : IsFlag (first_of (codes "progress") rows) options.progress
  pub explain : IsFlag (first_of (codes "explain") rows) options.explain
  pub alone : IsAlone options.session options.stats options.progress
  pub typed : AreHyphens (operands_in rows) options.typed

-- The words, of which the first is the program's name, ask for these options.
pub record WordsAskFor (words : List Text) (options : Options) : Type 0 where
  -- clap finds no fault with them
  pub fit : fault_of program words ≡ []
  pub ask : AsksFor (matches_of program words) options

-- No options are asked for.
abbrev pub AskForNothing : List Text → Type 0
AskForNothing words = (options : Options) → WordsAskFor words options → ⊥

-- ---- the words that ask for a text

-- what clap answers in place of an error: the help or the version
abbrev pub IsTextKind : ErrorKind → Type 0
IsTextKind kind = (kind ≡ DisplayHelp) ⊎ (kind ≡ DisplayVersion)

-- The words ask for the help or the version.
pub record AskForText (words : List Text) : Type 0 where
  pub kind : ErrorKind
  pub is_text : IsTextKind kind
  pub found : IsAmong kind (fault_of program words)

-- no answer is asked for, but a text
abbrev pub IsText : Refusal → Type 0
IsText (refusal.Text text) = ⊤
IsText (refusal.Line line) = ⊥
IsText refusal.Memory = ⊥

-- what is wrong with the words, in a sentence
abbrev pub IsLine : Refusal → Type 0
IsLine (refusal.Text text) = ⊥
IsLine (refusal.Line line) = ⊤
IsLine refusal.Memory = ⊥
