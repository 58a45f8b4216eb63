use Rattle.request_reader.proofs.Unique.{one_list}
use Rattle.request_reader.proofs.laws.lines_come_to_one_list.Goals as goal

pub returns : goal.returns
returns c = one_list
