-- There are contents for each switch.
use Rattle.std.proofs.Common.{◌≡◌, ℕ, List, [], ◌∷◌, length, map, Option, Some, None, Result, Ok, Err, IfOk, slice_set, refl, sym, ap, ◌∙◌}
use Rattle.std.specs.Global.{Vec}
use Rattle.std.proofs.lemmas.List.{length-map, length-set}
use Rattle.serde_json.specs.Data.{Data}
use Rattle.outside.specs.State.{StoreState}
use Rattle.indus_tree.specs.Tree.{Decl}
use Rattle.indus_tree.specs.State.{Contents}
use Rattle.indus_values.specs.declared.state.ControlValue.{ControlValue}
use Rattle.table_faults.specs.declared.table.TableFault.{TableFault}
use Rattle.json_parts.specs.Answers.{◌>>=◌}
use Rattle.json_parts.specs.Paths.{below}
use Rattle.json_parts.specs.Turns.{each_in_turn}
use Rattle.json_values.specs.Words.{object_at}
use Rattle.network_file.specs.Network.{number_of}
use Rattle.control_file.specs.Control.{all_unset, variables_at, set_numbered, set_switch, control_of}
use Rattle.control_file.specs.Views.{contents_view, switches_view}
use Rattle.job_course.specs.declared.status.Stop.{Stop}
use Rattle.job_course.specs.Course.{and_then}
use Rattle.job_course.specs.Steps.{Follows}
use Rattle.control_course.specs.Files.{contents_course}

module _ (ds : List Decl) (names : List (List ℕ)) where
  -- a switch is set among the others
  numbered : (path : List ℕ) (held css : List (List Contents)) (s : Option ℕ) (d : Data) → set_numbered path ds held s d ≡ Ok css → length css ≡ length held
  numbered path held css None d h = absurd cc
  numbered path held css (Some s) d h = by (variables_at path ds d) h
    where
      by : (r : Result (List Contents) TableFault) → (r >>= λ cs. Ok (slice_set held s cs)) ≡ Ok css → length css ≡ length held
      by (Ok cs) h = let is : slice_set held s cs ≡ css = cc in ap length (sym is) ∙ length-set held s cs
      by (Err e) h = absurd cc

  members : (held css : List (List Contents)) (fs : List (List ℕ × Data)) → each_in_turn (set_switch ds names) held fs ≡ Ok css → length css ≡ length held
  unfolding each_in_turn
  members held css [] h = let is : held ≡ css = cc in ap length (sym is)
  members held css (f ∷ fs) h = by (λ more k. members more css fs k) (set_switch ds names held f) refl h
    where
      by : ((more : List (List Contents)) → each_in_turn (set_switch ds names) more fs ≡ Ok css → length css ≡ length more) → (r : Result (List (List Contents)) TableFault) → set_switch ds names held f ≡ r
          → (r >>= λ more. each_in_turn (set_switch ds names) more fs) ≡ Ok css → length css ≡ length held
      by again (Ok more) is rest = again more rest ∙ numbered (below [] f.0) held more (number_of names f.0) f.1 is
      by again (Err e) is rest = absurd cc

  file : (d : Data) (css : List (List Contents)) → control_of ds names d ≡ Ok css → length css ≡ length names
  unfolding control_of
  file d css h = by (object_at [] d) h
    where
      by : (r : Result (List (List ℕ × Data)) TableFault) → (r >>= λ fields. each_in_turn (set_switch ds names) (map (λ name. all_unset ds) names) fields) ≡ Ok css → length css ≡ length names
      by (Ok fs) h = members (map (λ name. all_unset ds) names) css fs h ∙ length-map names (λ (name : List ℕ). all_unset ds)
      by (Err e) h = absurd cc

  given : (name : Option (List ℕ)) (css : List (List Contents)) → (contents_course name ds names).may css → length css ≡ length names
  unfolding and_then
  given None css is = ap length is ∙ length-map names (λ (name : List ℕ). all_unset ds)
  given (Some x) css (d, may, is) = file d css is

  pub if_counted : (name : Option (List ℕ)) (s t : StoreState) (r : Result (Vec (Vec ControlValue)) Stop) → Follows (contents_course name ds names) switches_view s t r → IfOk r (λ v. length v.items ≡ length names)
  if_counted name s t (Ok v) h = sym (length-map v.items contents_view) ∙ given name (switches_view v) h.keeps.may
  if_counted name s t (Err e) h = tt
