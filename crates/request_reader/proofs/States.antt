-- The states of a reader of requests.
use Rattle.std.proofs.Common.{◌≡◌, ℕ, Bool, true, false, List, [], ◌∷◌, ◌++◌, None, sym, subst}
use Rattle.request_reader.specs.declared.request_reader.RequestReader.{RequestReader}
use Rattle.request_reader.specs.Requests.{Outcome, no_memory}
use Rattle.request_reader.specs.Reading.{HasReadBefore, IsAmong, IsPassing, IsReading, IsRefusedLast}

pub as_reading : (b : Bool) (reader : RequestReader) (first : ℕ) (all next : List (List ℕ)) (outcomes : List Outcome)
    → b ≡ false → IsAmong b reader first all next outcomes
    → IsReading reader.vertices reader.draft reader.has_section reader.head reader.line first all next outcomes
as_reading b reader first all next outcomes is h = subst (λ x. IsAmong x reader first all next outcomes) is h

pub from_reading : (b : Bool) (reader : RequestReader) (first : ℕ) (all next : List (List ℕ)) (outcomes : List Outcome)
    → b ≡ false
    → IsReading reader.vertices reader.draft reader.has_section reader.head reader.line first all next outcomes
    → IsAmong b reader first all next outcomes
from_reading b reader first all next outcomes is h = subst (λ x. IsAmong x reader first all next outcomes) (sym is) h

pub as_passing : (b : Bool) (reader : RequestReader) (first : ℕ) (all next : List (List ℕ)) (outcomes : List Outcome)
    → b ≡ true → IsAmong b reader first all next outcomes
    → IsPassing reader.vertices reader.has_section reader.line first all next outcomes
as_passing b reader first all next outcomes is h = subst (λ x. IsAmong x reader first all next outcomes) is h

pub from_passing : (b : Bool) (reader : RequestReader) (first : ℕ) (all next : List (List ℕ)) (outcomes : List Outcome)
    → b ≡ true → IsPassing reader.vertices reader.has_section reader.line first all next outcomes
    → IsAmong b reader first all next outcomes
from_passing b reader first all next outcomes is h = subst (λ x. IsAmong x reader first all next outcomes) (sym is) h

-- a reader that begins a request
pub from_fresh : (reader : RequestReader) (n number first : ℕ) (all next : List (List ℕ)) (outcomes : List Outcome)
    → reader.is_refused ≡ false → reader.has_section ≡ false → reader.head ≡ None → reader.vertices ≡ n
    → reader.line ≡ number → IsReading n reader.draft false None number first all next outcomes
    → HasReadBefore reader first all next outcomes
from_fresh reader n number first all next outcomes refused section head vertices line h =
    from_reading reader.is_refused reader first all next outcomes refused
    (subst (λ b. IsReading reader.vertices reader.draft b reader.head reader.line first all next outcomes) (sym section)
    (subst (λ x. IsReading reader.vertices reader.draft false x reader.line first all next outcomes) (sym head)
    (subst (λ v. IsReading v reader.draft false None reader.line first all next outcomes) (sym vertices)
    (subst (λ k. IsReading n reader.draft false None k first all next outcomes) (sym line) h))))

-- a reader whose last request, which was whole, can be refused
pub refused_last : (reader : RequestReader) (n number last first : ℕ) (section : Bool) (all : List (List ℕ))
    (outcomes : List Outcome)
    → reader.vertices ≡ n → reader.had_section ≡ section → reader.line ≡ number → reader.last ≡ last
    → IsPassing n section number first all [] (outcomes ++ no_memory last ∷ [])
    → IsRefusedLast reader first all outcomes
refused_last reader n number last first section all outcomes vertices had line was p =
    subst (λ v. IsPassing v reader.had_section reader.line first all [] (outcomes ++ no_memory reader.last ∷ []))
    (sym vertices)
    (subst (λ b. IsPassing n b reader.line first all [] (outcomes ++ no_memory reader.last ∷ [])) (sym had)
    (subst (λ k. IsPassing n section k first all [] (outcomes ++ no_memory reader.last ∷ [])) (sym line)
    (subst (λ k. IsPassing n section number first all [] (outcomes ++ no_memory k ∷ [])) (sym was) p)))
