use Rattle.relax_core.proofs.Cover as cover
use Rattle.relax_core.proofs.Accounts as account
use Rattle.relax_core.proofs.laws.returning.Goals as goal

pub returns : goal.returns
returns c = record { cover = cover.returning; account = account.returning }
