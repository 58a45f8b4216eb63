use Rattle.std.proofs.Common.{◌≡◌, ◌↔◌, ℕ, ◌<◌, Bool, IsTrue, ap, arith, nat_lt, refl, subst, unwrap_or}
use Rattle.std.proofs.lemmas.Bool.Decides.{nat_tests}
use Rattle.route_walks.specs.declared.graph.TheConstants.{INF}
use Rattle.job_answer.specs.Choices.{IsLinesAsked}
use Rattle.job_answer.specs.declared.question.asked.Lines.{Lines}
use Rattle.job_answer.specs.declared.question.asked.Lines.TheVariants.{Within}
use Rattle.job_answer.proofs.question.asked.Lines.has_cost.Goals as goal

within_cost : (lines : Lines) (walks : Bool) (bound : ℕ) → lines ≡ Within walks bound
    → IsTrue (nat_lt bound INF) ↔ IsLinesAsked lines
within_cost lines walks bound is =
    let below : IsTrue (nat_lt bound INF) → bound < INF = λ low. grind (arith, nat_tests, low) in
    let tests : bound < INF → IsTrue (nat_lt bound INF) = λ low. grind (arith, nat_tests, low) in
    rw is (
      (λ low other same. subst (λ (x : ℕ). x < INF) (ap (λ b. unwrap_or b 0) same) (below low)),
      (λ asked. tests (asked bound refl)),
    )

pub returns-in-Within : goal.returns-in-Within
returns-in-Within c = within_cost c.args.self c.in-Within.walks c.in-Within.bound c.in-Within.is
