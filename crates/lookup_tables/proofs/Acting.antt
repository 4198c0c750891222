-- The action that a lookup's table chooses gives its word to the variable of what is found.
use Rattle.std.proofs.Common.{◌≡◌, ℕ, List, [], ◌∷◌, Bool, true, false, cond, ◌&&◌, Option, Some, None, refl, sym, ap, ap₂, ◌∙◌, subst, arith}
use Rattle.std.specs.List.{AllByRecursion}
use Rattle.std.proofs.lemmas.Bool.{and_right}
use Rattle.bit_values.specs.Bits.{Word, word}
use Rattle.bit_values.specs.Widths.{sound_width, cast_word}
use Rattle.lex_text.specs.Names.{same_text}
use Rattle.p4_tree.specs.Tree.{Expr, done, next, assign}
use Rattle.p4_meaning.specs.Store.{Store, shown, set_value}
use Rattle.p4_meaning.specs.Value.{value_of}
use Rattle.p4_meaning.specs.Statements.{Go, Run, Ended, after, in_store, no_calls, meaning_of}
use Rattle.p4_meaning.specs.Actions.{Action, flow_behind, act}
use Rattle.indus_tree.specs.State.{nothing_of}
use Rattle.indus_tree.specs.Shapes.{HasWidth}
use Rattle.control_tables.specs.Laws.{first_or}
use Rattle.monitor_laws.specs.Trees.{number}
use Rattle.monitor_laws.proofs.Frames.{others_set, open_by, assignment}
use Rattle.lookup_names.specs.Names.{found_name}
use Rattle.lookup_names.specs.Keys.{variable}
use Rattle.lowered_code.specs.Names.{action_name, argument_name}
use Rattle.lowered_code.specs.Statements.{Var}
use Rattle.lowered_code.specs.Standing.{HasWidths}
use Rattle.lowered_code.specs.Lookups.{Scratch}
use Rattle.lowered_code.proofs.Widths.{cast_kept}
use Rattle.lowered_code.proofs.Scratch.{reads_back, scratch_same, scratch_then, scratch_found}

-- from the run q on an action gave a word to the variable of the n-th lookup, and went on
pub record Gave (vars : List Var) (n : ℕ) (w : Word) (q : Run) (e : Ended) : Type 0 where
  pub scratch : Scratch vars n q e.0
  pub goes : e.1 ≡ Go
  pub found : e.0.store.values (found_name n ∷ []) ≡ w

module _ (vars : List Var) (c : List ℕ) (n : ℕ) (spare : AllByRecursion (λ v. same_text (argument_name c n) v.1 ≡ false) vars) where
  -- the parameter is none of the variables
  widths_past :
      (vs : List Var) (s : Store) (w : Word) → AllByRecursion (λ v. same_text (argument_name c n) v.1 ≡ false) vs →
      HasWidths vs s → HasWidths vs (set_value s (argument_name c n ∷ []) w)
  widths_past [] s w o h = tt
  widths_past (v ∷ vs) s w o h = (ap (λ b. (cond (b && true) w (s.values (v.1 ∷ []))).width) o.0 ∙ h.0, widths_past vs s w o.1 h.1)

  scratch_param : (q : Run) (w : Word) → Scratch vars n q (in_store q (set_value q.store (argument_name c n ∷ []) w))
  scratch_param q w =
      record {
        long = λ x y rest. ap (λ b. cond b w (q.store.values (x ∷ y ∷ rest))) (and_right (same_text (argument_name c n) x) false refl);
        found = λ m o. refl;
        rejected = refl;
        headers = refl;
        cells = refl;
        digests = refl;
        widths = λ h. widths_past vars q.store w spare h;
        others = others_set q (argument_name c n ∷ []) w refl;
      }

  -- the variable of what is found takes a value that has its width
  takes :
      (e : Expr) (u : Word) (w : ℕ) (q : Run) → q.store.headers [] ≡ None →
      (q.store.values (found_name n ∷ [])).width ≡ w → value_of e w q.store ≡ u → HasWidth w u →
      Gave vars n u q (meaning_of no_calls (next (assign 0 (found_name n ∷ []) e) done) q)
  takes e u w q plain wide value fits =
      let old = q.store.values (found_name n ∷ []) in
      let val = value_of e old.width q.store in
      let low = assignment no_calls q 0 (found_name n ∷ []) e old val refl (open_by (q.store.headers []) None plain tt) refl refl in
      let r = in_store q (set_value q.store (found_name n ∷ []) (cast_word (sound_width old.width) val)) in
      let is : cast_word (sound_width old.width) val ≡ u = ap (λ m. cast_word (sound_width m) (value_of e m q.store)) wide ∙ ap (cast_word (sound_width w)) value ∙ cast_kept w u fits in
      let gave : Gave vars n u q (r, Go) = record { scratch = scratch_found vars n q val; goes = refl; found = reads_back q.store (found_name n ∷ []) (cast_word (sound_width old.width) val) ∙ is } in
      subst (Gave vars n u q) (sym (ap (λ (e : Ended). after e.1 e.0 (meaning_of no_calls done)) low)) gave

  goes_on : (w : Word) (q : Run) (e : Ended) → Gave vars n w q e → Gave vars n w q (e.0, flow_behind e.1)
  goes_on w q e g = record { scratch = g.scratch; goes = ap flow_behind g.goes; found = g.found }

  -- the word of the parameter
  from_param :
      (u : Word) (w : ℕ) (q : Run) → q.store.headers [] ≡ None → (q.store.values (found_name n ∷ [])).width ≡ w →
      HasWidth w u
      → Gave vars n u q (meaning_of no_calls (next (assign 0 (found_name n ∷ []) (variable (argument_name c n))) done) (in_store q (set_value q.store (argument_name c n ∷ []) u)))
  from_param u w q plain wide fits =
      let r = in_store q (set_value q.store (argument_name c n ∷ []) u) in
      let g = takes (variable (argument_name c n)) u w r plain wide (ap₂ shown plain (reads_back q.store (argument_name c n ∷ []) u)) fits in
      record { scratch = scratch_then vars n q r _ (scratch_param q u) g.scratch; goes = g.goes; found = g.found }

  -- the first argument
  pub gives_value :
      (w : ℕ) (args : List Word) (q : Run) → q.store.headers [] ≡ None →
      (q.store.values (found_name n ∷ [])).width ≡ w → HasWidth w (first_or (nothing_of w) args)
      → Gave vars n (first_or (nothing_of w) args) q
      (act (record { name = action_name c n; params = record { name = argument_name c n; width = w } ∷ []; body = next (assign 0 (found_name n ∷ []) (variable (argument_name c n))) done }) args q)
  gives_value w [] q plain wide fits = goes_on (nothing_of w) q _ (from_param (nothing_of w) w q plain wide fits)
  gives_value w (u ∷ us) q plain wide fits =
      goes_on u q _
      (subst (λ p. Gave vars n u q (meaning_of no_calls (next (assign 0 (found_name n ∷ []) (variable (argument_name c n))) done) (in_store q (set_value q.store (argument_name c n ∷ []) p)))) (sym (cast_kept w u fits))
      (from_param u w q plain wide fits))

  -- that a key is there
  pub gives_member :
      (args : List Word) (q : Run) → q.store.headers [] ≡ None → (q.store.values (found_name n ∷ [])).width ≡ 1
      → Gave vars n (word 1 1) q (act (record { name = action_name c n; params = []; body = next (assign 0 (found_name n ∷ []) (number 1 1)) done }) args q)
  gives_member args q plain wide = goes_on (word 1 1) q _ (takes (number 1 1) (word 1 1) 1 q plain wide refl (record { width = refl; in_range = omega arith }))
