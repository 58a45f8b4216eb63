-- Laws of command lines.
use Rattle.std.specs.Prelude.{◌≡◌, List}
use Rattle.clap.specs.Words.{Text}
use Rattle.command_line.specs.CommandLine.{WordsAskFor}
use Rattle.command_line.specs.declared.options.Options.{Options}

-- words ask for at most one value of the options
abbrev pub WordsAskForOne : Type 0
WordsAskForOne =
    (words : List Text) (one other : Options)
    → WordsAskFor words one
    → WordsAskFor words other
    → one ≡ other
