use Rattle.label_words.proofs.Steps.{taking, reading, relaxing, raising, raising_by, marking, finishing, keeping}
use Rattle.label_words.proofs.Steps.{returning, seeing}
use Rattle.label_words.proofs.laws.calls_are_events.Goals as goal

pub returns : goal.returns
returns c = record {
  take = taking;
  read = reading;
  relax = relaxing;
  raise = raising;
  raise_by = raising_by;
  set_mark = marking;
  finish = finishing;
  keep = keeping;
  give_back = returning;
  see = seeing;
}
