-- Each reading to which the run of a parser comes fits.
use Rattle.std.proofs.Common.{◌≡◌, ℕ, zero, suc, List, [], ◌∷◌, length, codes, subst}
use Rattle.std.specs.Prelude.{Result, Ok, Err}
use Rattle.p4_tree.specs.Tree.{Stmt, ParserState, Transition}
use Rattle.p4_meaning.specs.Parsing.{ParserError, Reading, Parsed, goes_on, stops, body_parsed, state_after, led, leads, turned}
use Rattle.p4_meaning.specs.Parts.{Parts}
use Rattle.passage_stores.specs.FitStores.{IsFitReading}
use Rattle.passage_stores.specs.SeenStores.{AlongBody, AlongTurns, AlongParse}
use Rattle.passage_stores.proofs.KeptStores.{HavePaths}
use Rattle.passage_stores.proofs.ParsedStores.{ParsedFits, step_fits, body_fits}

module _ (p : Parts) (paths : HavePaths p.headers) (Q : Reading → Type 0) (turn : (r : Reading) → IsFitReading p r → Q r) where
  body_along : (cs : List Stmt) (r : Reading) → IsFitReading p r → AlongBody p.headers Q cs r
  body_along [] r h = tt
  body_along (c ∷ cs) r h = (turn r h, λ q e. body_along cs q (subst (ParsedFits p) e (step_fits p paths c r h)))

  led_is : (o : Result (List ℕ) ParserError) (r : Reading) → IsFitReading p r → (y : List ℕ) (q : Reading) → led o r ≡ leads y q → IsFitReading p q
  led_is (Ok z) r h y q e = (let same : r ≡ q = cc in subst (IsFitReading p) same h)
  led_is (Err g) r h y q e = absurd (cc)

  leads_fit : (d : Parsed) (t : Transition) → ParsedFits p d → (y : List ℕ) (q : Reading) → turned d t ≡ leads y q → IsFitReading p q
  leads_fit (goes_on r) t h y q e = led_is (state_after t r.store) r h y q e
  leads_fit (stops r g) t h y q e = absurd (cc)

  turns_along : (n : ℕ) (us : List ParserState) (x : List ℕ) (r : Reading) → IsFitReading p r → AlongTurns p.headers Q n us x r
  turns_along zero us x r h = tt
  turns_along (suc n) us x r h = λ goes t found. (
    (body_along t.0.body r h, λ q e. turn q (subst (ParsedFits p) e (body_fits p paths t.0.body r h))),
    λ y q e. turns_along n t.1 y q (leads_fit (body_parsed p.headers t.0.body r) t.0.next (body_fits p paths t.0.body r h) y q e),
  )

  pub parse_along : (us : List ParserState) (r : Reading) → IsFitReading p r → AlongParse p.headers Q us r
  parse_along us r h = turns_along (suc (length us)) us (codes "start") r h
