use Rattle.walk_report.proofs.Agreeing as agreeing
use Rattle.walk_report.proofs.laws.walks_below_agree.Goals as goal

pub returns : goal.returns
returns c = agreeing.walks_below_agree
