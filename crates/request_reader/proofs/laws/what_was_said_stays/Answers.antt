use Rattle.request_reader.proofs.Prefix.{so_far}
use Rattle.request_reader.proofs.laws.what_was_said_stays.Goals as goal

pub returns : goal.returns
returns c = so_far
