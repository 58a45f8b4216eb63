use Rattle.route_walks.proofs.Limits.{least_up_to_is_least, least_is_least_up_to, least_up_to_agrees, within_is_exact}
use Rattle.route_walks.proofs.laws.least_up_to_a_limit.Goals as goal

pub returns : goal.returns
returns c = record {
  least = least_up_to_is_least;
  all = least_is_least_up_to;
  agrees = least_up_to_agrees;
  within = within_is_exact;
}
