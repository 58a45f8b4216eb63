use Rattle.std.proofs.Common.{◌≡◌, ◌≢◌, ◌∙◌, List, ap, inl, inr, refl, subst, sym, true, map}
use Rattle.clap.specs.Words.{App, HasKind, IsAmong, Row, Text, fault_of, is_simple, is_simple_and_free, kind_of, matches_of}
use Rattle.clap.specs.declared.error.Error.{Error}
use Rattle.clap.specs.declared.error.kind.ErrorKind.TheVariants.{DisplayHelp, DisplayVersion, OutOfMemory}
use Rattle.command_line.specs.CommandLine.{AsksFor, AskForNothing, AskForText, IsTextKind, program}
use Rattle.command_line.proofs.Finding.{none_refused}
use Rattle.command_line.proofs.parse.parse_options.Goals as goal

-- no argument of the command changes how the words are read
is_simple_program : is_simple program ≡ true
is_simple_program = refl

-- nor has one a rule on another
is_free_program : is_simple_and_free program ≡ true
is_free_program = refl

-- an error that asks for a text tells that the words do
asks_for_text : (words : List Text) (error : Error) → HasKind (fault_of program words) error
    → IsTextKind (kind_of error) → AskForText words
asks_for_text words error (inr among) is = record { kind = kind_of error; is_text = is; found = among }
asks_for_text words error (inl memory) (inl is) =
    let bad : OutOfMemory ≡ DisplayHelp = sym memory ∙ is in absurd (cc)
asks_for_text words error (inl memory) (inr is) =
    let bad : OutOfMemory ≡ DisplayVersion = sym memory ∙ is in absurd (cc)

-- nor do words ask for options of which clap finds a fault, where memory is there
no_options : (words : List Text) (error : Error) → HasKind (fault_of program words) error
    → kind_of error ≢ OutOfMemory → AskForNothing words
no_options words error (inl memory) is options asks = is memory
no_options words error (inr among) is options asks = subst (IsAmong (kind_of error)) asks.fit among

pub returns-in-Ok-clause-asked : goal.returns-in-Ok-clause-asked
returns-in-Ok-clause-asked g c =
    let words = map g.S.AsStr.text c.args.arguments.now in
    let is = c.in_ok-command.ensures in
    let options = c.in_ok-options_in-in-Ok.field-0 in
    let rows = (c.in-Ok.ensures.matches (ap is_simple is ∙ is_simple_program)).0
    ∙ ap (λ (app : App). matches_of app words) is in
    record {
      fit = sym (ap (λ (app : App). fault_of app words) is)
          ∙ c.in-Ok.ensures.kinds (ap is_simple_and_free is ∙ is_free_program);
      ask = subst (λ (found : List Row). AsksFor found options) rows c.in_ok-options_in-in-Ok.ensures;
    }

pub returns-clause-text : goal.returns-clause-text
returns-clause-text g c text =
    let words = map g.S.AsStr.text c.args.arguments.now in
    let is = c.in_ok-command.ensures in
    let error = c.in-Err.error in
    asks_for_text words error
    (subst (λ (app : App). HasKind (fault_of app words) error) is
    (c.in-Err.ensures.kinds (ap is_simple_and_free is ∙ is_free_program)))
    (c.refused_by.ensures.text text)

pub returns-clause-refused : goal.returns-clause-refused
returns-clause-refused g c line =
    let words = map g.S.AsStr.text c.args.arguments.now in
    let is = c.in_ok-command.ensures in
    let error = c.in-Err.error in
    no_options words error
    (subst (λ (app : App). HasKind (fault_of app words) error) is
    (c.in-Err.ensures.kinds (ap is_simple_and_free is ∙ is_free_program)))
    (c.refused_by.ensures.line line)

pub returns-in_err-options_in-in-Ok-clause-refused : goal.returns-in_err-options_in-in-Ok-clause-refused
returns-in_err-options_in-in-Ok-clause-refused g c =
    let words = map g.S.AsStr.text c.args.arguments.now in
    let is = c.in_ok-command.ensures in
    let rows = (c.in-Ok.ensures.matches (ap is_simple is ∙ is_simple_program)).0
    ∙ ap (λ (app : App). matches_of app words) is in
    none_refused words _ _ _ c.from_residual-in_err-options_in-in-Ok.ensures.1 c.in_err-options_in-in-Ok.ensures
    (λ options asks. subst (λ (found : List Row). AsksFor found options) (sym rows) asks.ask)
