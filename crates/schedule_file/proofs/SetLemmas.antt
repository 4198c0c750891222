-- What a member sets, part by part.
use Rattle.std.proofs.Common.{◌≡◌, List, ℕ, [], ◌∷◌, Result, Ok, Err, refl, ap, ◌∙◌}
use Rattle.std.specs.Prelude.{codes}
use Rattle.serde_json.specs.Data.{Data}
use Rattle.indus_tree.specs.Tree.{Decl}
use Rattle.table_faults.specs.declared.table.TableFault.{TableFault}
use Rattle.table_faults.specs.declared.table.TableFault.TheVariants as table
use Rattle.json_parts.specs.Answers.{with_fault, GivesUnless}
use Rattle.json_parts.specs.Object.{Object, members_of, end_of}
use Rattle.json_parts.specs.declared.fault.ShapeFault.{ShapeFault}
use Rattle.json_parts.specs.declared.fault.ShapeFault.TheVariants as shape
use Rattle.json_values.specs.Words.{fault_of}
use Rattle.schedule_file.specs.Sets.{Setting, set_path, named_in, setting_by, setting_of}

-- what was read is what a definition gives
pub read_ok : {X Y : Type 0} (view : X → Y) (r : Result X ShapeFault) (x : X) (defined : Result Y ShapeFault) → Ok x ≡ with_fault fault_of r → GivesUnless shape.NoMemory view r defined → with_fault fault_of defined ≡ Ok (view x)
read_ok view (Ok y) x defined e g =
    let same : x ≡ y = cc in
    rw (g, same) refl
read_ok view (Err f) x defined e g = absurd cc

pub read_err : {X Y : Type 0} (view : X → Y) (r : Result X ShapeFault) (f : TableFault) (defined : Result Y ShapeFault) → Err f ≡ with_fault fault_of r → GivesUnless shape.NoMemory view r defined
    → (f ≡ table.NoMemory → ⊥) → with_fault fault_of defined ≡ Err f
read_err view (Ok y) f defined e g other = absurd cc
read_err view (Err h) f defined e g other =
    let same : f ≡ fault_of h = cc in
    rw (g (λ none. other (same ∙ ap fault_of none)), same) refl

module _ (ds : List Decl) (names : List (List ℕ)) (d : Data) (o : Object) (members : with_fault fault_of (members_of set_path (codes "switch" ∷ codes "value" ∷ codes "variable" ∷ []) d) ≡ Ok o) where
  pub set_stop : (e : TableFault) → setting_by names o (named_in ds d) ≡ Err e → setting_of ds names d ≡ Err e
  set_stop e is = rw (members, is) refl

  pub set_rest : (s : Setting) (e : TableFault) → setting_by names o (named_in ds d) ≡ Ok s → with_fault fault_of (end_of o) ≡ Err e → setting_of ds names d ≡ Err e
  set_rest s e is rest = rw (members, is, rest) refl
