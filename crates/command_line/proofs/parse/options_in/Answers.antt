use Rattle.std.proofs.Common.{◌≡◌, ◌∙◌, List, [], Option, codes, false, true, refl, rules, subst, sym, ap}
use Rattle.std.proofs.Common.{unwrap_or, is_some, option_map}
use Rattle.clap.proofs.WalkLemmas.{first_value-rows, raw_values-rows}
use Rattle.clap.specs.Words.{Text, first_of, first_value, found_of, matched_of, raw_values, rows_of}
use Rattle.clap.specs.declared.parser.matches.Found.{Found}
use Rattle.job_answer.specs.LineWalks.{bound_in, has_raw_pairs, has_walks, is_raw, is_totals}
use Rattle.job_answer.specs.Choices.{IsAsked}
use Rattle.job_answer.specs.declared.question.asked.Answer.{Answer}
use Rattle.job_answer.specs.declared.question.asked.Lines.{Lines}
use Rattle.job_answer.specs.declared.question.asked.Lines.TheVariants.{Each}
use Rattle.job_answer.specs.declared.question.asked.TheConstants.{MAX_BYTES}
use Rattle.command_line.specs.CommandLine.{AreHyphens, AsksAtOnce, AsksCost, AsksFor, AsksLandmarks, AsksLines, AsksSettings}
use Rattle.command_line.specs.CommandLine.{IsAlone, IsAuto, IsFlag, NamesKind, NamesLabels, NamesUse, operands_in}
use Rattle.command_line.specs.declared.options.Options.{Options}
use Rattle.command_line.proofs.Finding.{none_passed}
use Rattle.command_line.proofs.Unique.{one_flag, one_kind, one_lines}
use Rattle.command_line.proofs.parse.options_in.Goals as goal

-- what is said of the value that was found, and of what it asks for
carried : {X : Type 0} (P : Option Text → X → Type 0) (found row : Option Text) (old new : X)
    → found ≡ row → new ≡ old → P found old → P row new
carried P found row old new rows same is = subst (P row) (sym same) (subst (λ text. P text old) rows is)

-- the operands that were found
operands_of : Found → List Text
operands_of found = unwrap_or (option_map raw_values (matched_of found (codes "operand"))) []

operands-rows : (found : Found) → operands_of found ≡ operands_in (rows_of found)
unfolding operands_of
operands-rows found = ap (λ given. unwrap_or given []) (raw_values-rows found (codes "operand"))

-- what options are asked for, of the values that were found
module _ (found : Found) (options : Options) (asks : AsksFor (rows_of found) options) where
  -- a flag is there
  flag_found : (name : Text) (is_there : _) → IsFlag (first_of name (rows_of found)) is_there
      → IsFlag (first_value found name) is_there
  flag_found name is_there is = subst (λ text. IsFlag text is_there) (sym (first_value-rows found name)) is

  kind_found : NamesKind (first_value found (codes "answer")) options.asked.answer
  kind_found = subst (λ text. NamesKind text options.asked.answer) (sym (first_value-rows found (codes "answer"))) asks.answer

  settings_found : AsksSettings (first_value found (codes "workers")) (first_value found (codes "shift"))
      (first_value found (codes "chunk")) options.asked.settings
  settings_found =
      let workers = first_value-rows found (codes "workers") in
      let shift = first_value-rows found (codes "shift") in
      let chunk = first_value-rows found (codes "chunk") in
      rw (workers, shift, chunk) asks.settings

  plan_found : AsksAtOnce (first_value found (codes "at-once")) options.asked.at_once
  plan_found = subst (λ text. AsksAtOnce text options.asked.at_once) (sym (first_value-rows found (codes "at-once"))) asks.at_once

  landmarks_found : AsksLandmarks (first_value found (codes "landmarks")) options.asked.landmarks
  landmarks_found = subst (λ text. AsksLandmarks text options.asked.landmarks)
      (sym (first_value-rows found (codes "landmarks"))) asks.landmarks

  use_found : NamesUse (first_value found (codes "hierarchy")) options.asked.hierarchy
  use_found = subst (λ text. NamesUse text options.asked.hierarchy)
      (sym (first_value-rows found (codes "hierarchy"))) asks.hierarchy

  hyphens_found : AreHyphens (operands_of found) options.typed
  hyphens_found = subst (λ (texts : List Text). AreHyphens texts options.typed) (sym (operands-rows found)) asks.typed

  lines_found : (kind : Answer) (walks : _) → kind ≡ options.asked.answer → walks ≡ has_walks options.asked.lines
      → AsksLines (first_value found (codes "within")) (first_value found (codes "labels"))
      (first_value found (codes "totals")) kind walks options.asked.lines
  lines_found kind walks same walked = record {
    walked = asks.lines.walked ∙ sym walked;
    asks_within = subst (λ text. AsksCost text (bound_in options.asked.lines)) (sym (first_value-rows found (codes "within")))
        asks.lines.asks_within;
    asks_labels = subst (λ text. NamesLabels text (is_raw options.asked.lines)) (sym (first_value-rows found (codes "labels")))
        asks.lines.asks_labels;
    asks_totals = flag_found _ _ asks.lines.asks_totals;
    pairs = asks.lines.pairs;
    plain = λ components. asks.lines.plain (sym same ∙ components) ∙ ap Each (sym walked);
  }

  -- a session that was found is alone
  alone_found : (session stats progress : _) → IsFlag (first_value found (codes "session")) session
      → IsFlag (first_value found (codes "stats")) stats → IsFlag (first_value found (codes "progress")) progress
      → IsAlone session stats progress
  alone_found session stats progress has_session has_stats has_progress is =
      let same = one_flag _ _ _ has_session (flag_found _ _ asks.session) in
      let alone = asks.alone (sym same ∙ is) in (
        one_flag _ _ _ has_stats (flag_found _ _ asks.stats) ∙ alone.0,
        one_flag _ _ _ has_progress (flag_found _ _ asks.progress) ∙ alone.1,
      )

  -- what was found may be asked
  asked_found : (kind : Answer) (walks : _) (by : Lines) → kind ≡ options.asked.answer
      → walks ≡ has_walks options.asked.lines
      → AsksLines (first_value found (codes "within")) (first_value found (codes "labels"))
      (first_value found (codes "totals")) kind walks by
      → IsAsked kind by MAX_BYTES
  asked_found kind walks by same walked lines =
      let is = one_lines _ _ _ _ _ _ _ lines (lines_found kind walks same walked) in
      rw (same, is, ← asks.limit) options.asked.within

pub returns : goal.returns
unfolding operands_of
returns c =
    let found = found_of c.args.matches.now in
    let rows = rows_of found in
    let made = c.in-Some.ensures in
    let with = c.with_at_once.ensures in
    let marked = c.with_landmarks.ensures in
    let contracted = c.with_hierarchy.ensures in
    let saving = c.with_saving.ensures in
    let workers = first_value-rows found (codes "workers") in
    let shift = first_value-rows found (codes "shift") in
    let chunk = first_value-rows found (codes "chunk") in
    let answer = saving.answer ∙ contracted.answer ∙ marked.answer ∙ with.answer ∙ made.answer in
    let lines_are = saving.lines ∙ contracted.lines ∙ marked.lines ∙ with.lines ∙ made.lines in
    let lines = c.in_ok-lines.ensures in
    let walks = ap has_walks lines_are ∙ lines.walked in
    record {
      answer = carried NamesKind _ _ _ _ (first_value-rows found (codes "answer")) answer c.in_ok-answer.ensures;
      walks = carried IsFlag _ _ _ _ (first_value-rows found (codes "walks")) walks c.has_flag-walks.ensures;
      lines = record {
        walked = refl;
        asks_within = carried AsksCost _ _ _ _ (first_value-rows found (codes "within")) (ap bound_in lines_are)
            lines.asks_within;
        asks_labels = carried NamesLabels _ _ _ _ (first_value-rows found (codes "labels")) (ap is_raw lines_are)
            lines.asks_labels;
        asks_totals = carried IsFlag _ _ _ _ (first_value-rows found (codes "totals")) (ap is_totals lines_are)
            lines.asks_totals;
        pairs = ap has_raw_pairs lines_are ∙ lines.pairs;
        plain = λ components. lines_are ∙ lines.plain (sym answer ∙ components) ∙ ap Each (sym walks);
      };
      settings = subst (AsksSettings (first_of (codes "workers") rows) (first_of (codes "shift") rows)
          (first_of (codes "chunk") rows)) (sym (saving.settings ∙ contracted.settings ∙ marked.settings ∙ with.settings ∙ made.settings))
          (rw (← workers, ← shift, ← chunk) c.in_ok-settings.ensures);
      saves = carried IsAuto _ _ _ _ workers saving.saves c.saves_workers-saves.ensures;
      at_once = carried AsksAtOnce _ _ _ _ (first_value-rows found (codes "at-once")) (saving.at_once ∙ contracted.at_once ∙ marked.at_once ∙ with.at_once)
          c.in_ok-at_once.ensures;
      landmarks = carried AsksLandmarks _ _ _ _ (first_value-rows found (codes "landmarks"))
          (saving.landmarks ∙ contracted.landmarks ∙ marked.landmarks) c.in_ok-landmarks.ensures;
      hierarchy = carried NamesUse _ _ _ _ (first_value-rows found (codes "hierarchy"))
          (saving.hierarchy ∙ contracted.hierarchy) c.in_ok-hierarchy.ensures;
      limit = saving.limit ∙ contracted.limit ∙ marked.limit ∙ with.limit ∙ made.limit;
      session = carried IsFlag _ _ _ _ (first_value-rows found (codes "session")) (search rules)
          c.has_flag-session.ensures;
      stats = carried IsFlag _ _ _ _ (first_value-rows found (codes "stats")) (search rules) c.has_flag-stats.ensures;
      progress = carried IsFlag _ _ _ _ (first_value-rows found (codes "progress")) (search rules)
          c.has_flag-progress.ensures;
      explain = carried IsFlag _ _ _ _ (first_value-rows found (codes "explain")) (search rules) c.has_flag.ensures;
      alone = c.is_alone.ensures.0 c.if-not-is_alone.false;
      typed = subst (λ (texts : List Text). AreHyphens texts c.in_ok-typed.typed) (operands-rows found)
          c.in_ok-typed.ensures;
    }

pub returns-in_err-typed : goal.returns-in_err-typed
unfolding operands_of
returns-in_err-typed c =
    none_passed _ _ _ _ c.from_residual.ensures.1 c.in_err-typed.ensures
    (λ options asks. (options.typed, hyphens_found (found_of c.args.matches.now) options asks))

pub returns-in_err-answer : goal.returns-in_err-answer
returns-in_err-answer c =
    none_passed _ _ _ _ c.from_residual-in_err-answer.ensures.1 c.in_err-answer.ensures
    (λ options asks. (options.asked.answer, kind_found (found_of c.args.matches.now) options asks))

pub returns-in_err-settings : goal.returns-in_err-settings
returns-in_err-settings c =
    none_passed _ _ _ _ c.from_residual-in_err-settings.ensures.1 c.in_err-settings.ensures
    (λ options asks. (options.asked.settings, settings_found (found_of c.args.matches.now) options asks))

pub returns-in_err-at_once : goal.returns-in_err-at_once
returns-in_err-at_once c =
    none_passed _ _ _ _ c.from_residual-in_err-at_once.ensures.1 c.in_err-at_once.ensures
    (λ options asks. (options.asked.at_once, plan_found (found_of c.args.matches.now) options asks))

pub returns-in_err-landmarks : goal.returns-in_err-landmarks
returns-in_err-landmarks c =
    none_passed _ _ _ _ c.from_residual-in_err-landmarks.ensures.1 c.in_err-landmarks.ensures
    (λ options asks. (options.asked.landmarks, landmarks_found (found_of c.args.matches.now) options asks))

pub returns-in_err-hierarchy : goal.returns-in_err-hierarchy
returns-in_err-hierarchy c =
    none_passed _ _ _ _ c.from_residual-in_err-hierarchy.ensures.1 c.in_err-hierarchy.ensures
    (λ options asks. (options.asked.hierarchy, use_found (found_of c.args.matches.now) options asks))

pub returns-in_err-lines : goal.returns-in_err-lines
returns-in_err-lines c =
    let found = found_of c.args.matches.now in
    none_passed _ _ _ _ c.from_residual-in_err-lines.ensures.1 c.in_err-lines.ensures
    (λ options asks. (
      options.asked.lines,
      lines_found found options asks _ _ (one_kind _ _ _ c.in_ok-answer.ensures (kind_found found options asks))
          (one_flag _ _ _ c.has_flag-walks.ensures (flag_found found options asks _ _ asks.walks)),
    ))

pub returns-in_default : goal.returns-in_default
returns-in_default c options asks =
    let found = found_of c.args.matches.now in
    let may = asked_found found options asks _ _ _
    (one_kind _ _ _ c.in_ok-answer.ensures (kind_found found options asks))
    (one_flag _ _ _ c.has_flag-walks.ensures (flag_found found options asks _ _ asks.walks)) c.in_ok-lines.ensures in
    let bad : false ≡ true = sym (ap is_some c.in_default.is) ∙ c.by_lines.ensures.within.1 may in absurd (cc)

pub returns-then-not-is_alone : goal.returns-then-not-is_alone
returns-then-not-is_alone c options asks =
    let found = found_of c.args.matches.now in
    let alone = c.is_alone.ensures.1 (alone_found found options asks _ _ _ c.has_flag-session.ensures
    c.has_flag-stats.ensures c.has_flag-progress.ensures) in
    let bad : false ≡ true = sym c.if-not-is_alone.true ∙ alone in absurd (cc)
