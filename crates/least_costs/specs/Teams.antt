-- Which workers each team has, where teams share workers.
use Rattle.std.specs.Prelude.{◌≡◌, ℕ, ◌+◌, ◌*◌, ◌/◌, ◌%◌, ◌<◌, ◌≤◌, min, nat_lt, if◌then◌else◌, ⊤}
use Rattle.least_costs.specs.declared.plan.AtOnce.{AtOnce}
use Rattle.least_costs.specs.declared.plan.AtOnce.TheVariants as at_once

-- no more than the number that is asked for, if there is one
abbrev pub IsAtMost : AtOnce → ℕ → Type 0
IsAtMost at_once.Auto count = ⊤
IsAtMost (at_once.Most most) count = count ≤ most

-- the workers of the team at a place: an equal share, and one more in the first teams if it doesn't come out even
abbrev pub team_size : ℕ → ℕ → ℕ → ℕ
team_size workers teams place = workers / teams + (if nat_lt place (workers % teams) then 1 else 0)

-- the workers of all teams before a place
abbrev pub workers_before : ℕ → ℕ → ℕ → ℕ
workers_before workers teams place = place * (workers / teams) + min place (workers % teams)

-- Each worker is in one team: the teams' workers follow one another from the first worker to the last, and no team
-- is without one if there are no more teams than workers.
pub record AreShared (workers teams : ℕ) : Type 0 where
  pub none_before : workers_before workers teams 0 ≡ 0
  pub next : (place : ℕ) →
      workers_before workers teams (place + 1) ≡ workers_before workers teams place + team_size workers teams place
  pub whole : workers_before workers teams teams ≡ workers
  pub some : (place : ℕ) → teams ≤ workers → 1 ≤ team_size workers teams place

abbrev pub TeamsShareWorkers : Type 0
TeamsShareWorkers = (workers teams : ℕ) → 0 < teams → AreShared workers teams
