-- What rewritten parser states do on the linked store: readings that are near, and how states end. Read `Lengths` before
-- it.
use Rattle.std.specs.Prelude.{◌≡◌, ℕ, List, true}
use Rattle.std.specs.List.{AllByRecursion}
use Rattle.p4_meaning.specs.Store.{Store}
use Rattle.p4_meaning.specs.Parsing.{Header, Reading, extracted_at, Parsed, goes_on, stops, Turned, ends, leads}
use Rattle.own_code.specs.Regions.{is_own_header}
use Rattle.own_code.specs.Relations.{bare, Stays}
use Rattle.packet_lengths.specs.Lengths.{Near}

-- the headers of a parser are own, and those of the linked one, which may have more, extract these likewise
pub record ExtractOwn (headers linked : List Header) : Type 0 where
  pub own : AllByRecursion (λ h. is_own_header h.path ≡ true) headers
  pub same : (p : List (List ℕ)) (s : Reading) → is_own_header p ≡ true → extracted_at linked p s ≡ extracted_at headers p s

-- the linked parser's y has the own part of x and the same bits to come, and since the store b nothing of the monitor's
-- has changed
pub record NearReading (b : Store) (x y : Reading) : Type 0 where
  pub near : Near x.store y.store
  pub stays : Stays (bare b) (bare y.store)
  pub rest : y.rest ≡ x.rest

-- statements of a state: both go on, or both stop with the same error
abbrev pub NearParsed : Store → Parsed → Parsed → Type 0
NearParsed b (goes_on x) (goes_on y) = NearReading b x y
NearParsed b (stops x e) (stops y e') = NearReading b x y × (e' ≡ e)
NearParsed b (goes_on x) (stops y e) = ⊥
NearParsed b (stops x e) (goes_on y) = ⊥

-- states: both end the parser with the same error, or both lead to the same state
abbrev pub NearTurned : Store → Turned → Turned → Type 0
NearTurned b (ends x) (ends y) = NearReading b x.reading y.reading × (y.error ≡ x.error)
NearTurned b (leads n x) (leads m y) = NearReading b x y × (m ≡ n)
NearTurned b (ends x) (leads n y) = ⊥
NearTurned b (leads n x) (ends y) = ⊥
