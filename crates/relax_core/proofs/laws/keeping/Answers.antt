use Rattle.relax_core.proofs.Cover as cover
use Rattle.relax_core.proofs.Accounts as account
use Rattle.relax_core.proofs.laws.keeping.Goals as goal

pub returns : goal.returns
returns c = record { cover = cover.keeping; account = account.keeping }
