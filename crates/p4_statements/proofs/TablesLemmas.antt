-- Words for parameters.
use Rattle.std.proofs.Common.{◌≡◌, ℕ, zero, suc, List, [], ◌∷◌, drop, refl}
use Rattle.bit_values.specs.Bits.{Word}
use Rattle.p4_meaning.specs.Store.{Store, set_value}
use Rattle.p4_meaning.specs.Actions.{Param, bound}
use Rattle.p4_statements.specs.Calls.{word_at}

-- one parameter has its word
pub bound_step : (p : Param) (ps : List Param) (ws : List Word) (i : ℕ) (s : Store) → bound (p ∷ ps) (drop i ws) s ≡ bound ps (drop (suc i) ws) (set_value s (p.name ∷ []) (word_at p.width (drop i ws)))
bound_step p ps [] zero s = refl
bound_step p ps [] (suc i) s = refl
bound_step p ps (w ∷ ws) zero s = refl
bound_step p ps (w ∷ ws) (suc i) s = bound_step p ps ws i s
