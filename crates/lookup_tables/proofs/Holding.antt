-- What a lookup's table holds is what `control_tables` puts into it.
use Rattle.std.proofs.Common.{◌≡◌, ℕ, List, [], ◌∷◌, map, refl, sym, ap, ap₂}
use Rattle.bit_values.specs.Bits.{Word}
use Rattle.indus_tree.specs.Tree.{Shape, one, list, set, dict}
use Rattle.indus_tree.specs.State.{Contents, single, members, pairs}
use Rattle.p4_meaning.specs.Choice.{exact}
use Rattle.p4_meaning.specs.Tables.{Entries}
use Rattle.table_entries.specs.Entries.{named}
use Rattle.control_tables.specs.Contents as contents
use Rattle.lowered_code.specs.Names.{action_name}
use Rattle.lookup_tables.specs.Tables.{Lookup, no_action, first_action, entries_in}
use Rattle.lookup_tables.specs.Finding.{AreOf, default_named, EntriesAreContents}

module _ (l : Lookup) (name : ℕ → List ℕ) (a : ℕ) (is : name a ≡ action_name l.control l.number) where
  keys_named :
      (ks : List (List Word)) →
      map (named (first_action l)) (contents.entries_for 0 (members ks)) ≡ map (named name) (contents.entries_for a (members ks))
  keys_named [] = refl
  keys_named (k ∷ ks) = ap₂ (λ x es. record { keys = map exact k; action = x; args = []; priority = 0 } ∷ es) (sym is) (keys_named ks)

  pairs_named :
      (es : List (List Word × Word)) →
      map (named (first_action l)) (contents.entries_for 0 (pairs es)) ≡ map (named name) (contents.entries_for a (pairs es))
  pairs_named [] = refl
  pairs_named (e ∷ es) = ap₂ (λ x fs. record { keys = map exact e.0; action = x; args = e.1 ∷ []; priority = 0 } ∷ fs) (sym is) (pairs_named es)

  by_shape : (s : Shape) (c : Contents) → AreOf s c → entries_in l s c ≡ record { listed = map (named name) (contents.entries_for a c); default = default_named name (contents.default_for a c) }
  by_shape (one t) (single w) i = ap (λ x. (let n : Entries = record { listed = []; default = record { action = x; args = w ∷ [] } } in n)) (sym is)
  by_shape (one t) (members ks) i = absurd i
  by_shape (one t) (pairs es) i = absurd i
  by_shape (list t n) c i = absurd i
  by_shape (set ts) (single w) i = absurd i
  by_shape (set ts) (members ks) i = ap (λ es. (let n : Entries = record { listed = es; default = no_action } in n)) (keys_named ks)
  by_shape (set ts) (pairs es) i = absurd i
  by_shape (dict ts t) (single w) i = absurd i
  by_shape (dict ts t) (members ks) i = absurd i
  by_shape (dict ts t) (pairs es) i = ap (λ fs. (let n : Entries = record { listed = fs; default = no_action } in n)) (pairs_named es)

pub entries_are_contents : EntriesAreContents
entries_are_contents l c of name a is = by_shape l name a is l.decl.shape c of
