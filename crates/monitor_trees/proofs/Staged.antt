-- What the linker's scopes offer is a stage.
use Rattle.std.proofs.Common.{◌≡◌, codes, ℕ, List, Bool, true, false, cond, not, Option, Some, None, refl, ap, ◌∙◌}
use Rattle.bit_values.specs.Bits.{Word}
use Rattle.lex_text.specs.Names.{same_text}
use Rattle.p4_meaning.specs.Standard.{headers_root, metadata_root, standard_root}
use Rattle.p4_meaning.specs.Scope.{Scope, Roots, Inner, is_inner, inner_name, root_of, full, full_name, is_among, constant_named}
use Rattle.own_code.specs.Regions.{is_mine}
use Rattle.own_code.proofs.Apart.{apart_names}
use Rattle.own_programs.specs.OwnPrograms.{is_own}
use Rattle.lowered_code.specs.Names.{sensor_name}
use Rattle.lowered_code.specs.Environment.{switch_name}
use Rattle.linked_programs.specs.Gives.{AreOwnRoots, Sees, StandForRoots}
use Rattle.monitor_trees.specs.Stage.{Stage}

-- a name of the monitor's is none of the parameters
stays_mine : (r : Roots) → AreOwnRoots r → (x : List ℕ) → is_mine x ≡ true → root_of r x ≡ x
stays_mine r own x m =
    go (same_text r.headers x) (same_text r.metadata x) (same_text r.standard x)
    (apart_names is_own r.headers x own.headers (ap not m)) (apart_names is_own r.metadata x own.metadata (ap not m)) (apart_names is_own r.standard x own.standard (ap not m))
  where
    go : (a b c : Bool) → a ≡ false → b ≡ false → c ≡ false → cond a headers_root (cond b metadata_root (cond c standard_root x)) ≡ x
    go true b c d e f = absurd (cc d)
    go false true c d e f = absurd (cc e)
    go false false true d e f = absurd (cc f)
    go false false false d e f = refl

module _ (s : ℕ) (around : List ℕ) (r : Roots) (own : AreOwnRoots r) (names : List (List ℕ)) (sc : Scope) (e : Sees s around r names sc) (stand : StandForRoots r sc)
    (no_sensor : (x : List ℕ) → is_among names (sensor_name x) ≡ false) where
  inside_is : (x : List ℕ) → is_mine x ≡ true → root_of sc.roots x ≡ x
  inside_is x m = ap (λ (t : Roots). root_of t x) e.roots ∙ stays_mine r own x m

  outer_is : (o : Option Inner) (c x y : List ℕ) → o ≡ None → cond (is_inner o x) (inner_name o c x) y ≡ y
  outer_is None c x y z = refl
  outer_is (Some i) c x y z = absurd (cc z)

  constant_is : (o : Option Inner) (x : List ℕ) (c : Option Word) → o ≡ None → cond (is_inner o x) None c ≡ c
  constant_is None x c z = refl
  constant_is (Some i) x c z = absurd (cc z)

  not_own : (x : List ℕ) → is_among sc.own x ≡ false → full_name sc x ≡ x
  not_own x z = ap (λ (b : Bool). cond b (full sc.control x) x) z

  pub staged : Stage s r sc
  staged =
      record {
        roots = stand;
        mine = λ x m. outer_is sc.inner sc.control x (root_of sc.roots x) e.outer ∙ inside_is x m;
        inside = inside_is;
        constants = λ x m n. constant_is sc.inner x (constant_named sc.constants x) e.outer ∙ e.constants x m n;
        switch = constant_is sc.inner switch_name (constant_named sc.constants switch_name) e.outer ∙ e.switch;
        registers = λ x. not_own (sensor_name x) (e.own (sensor_name x) refl ∙ no_sensor x);
        digest = not_own (codes "digest") e.digest;
        no_action = not_own (codes "NoAction") e.no_action;
      }
