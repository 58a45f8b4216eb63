use Rattle.walk_report.proofs.Toward as toward
use Rattle.walk_report.proofs.laws.walks_toward_agree.Goals as goal

pub returns : goal.returns
returns c = toward.walks_toward_agree
