-- A flat expression has the value that the expression has.
use Rattle.std.proofs.Common.{◌≡◌, ◌⊎◌, inl, inr, ⊎_elim, ℕ, zero, suc, ◌+◌, ◌-◌, ◌<◌, ◌≤◌, ◌^◌, ◌%◌, List, [], ◌∷◌, ◌++◌, length, All, Bool, true, false, ◌&&◌, ◌||◌, cond, Option, Some, None, refl, sym, ap, ap₂, ◌∙◌, arith, subst, nat_eq, nat_lt, nat_le, slice_get}
use Rattle.std.proofs.Math.Nat.{mod-eq_of_lt}
use Rattle.std.proofs.lemmas.Bool.{cases_lt, lt-ltb, le-ltb, le-leb}
use Rattle.std.proofs.lemmas.Nat.{pow_pos}
use Rattle.std.proofs.lemmas.Option.{slice_get_within, get_or_from_slice_get}
use Rattle.std.proofs.lemmas.Slice.Eq.{bytes_eq-Decides}
use Rattle.std.specs.Prelude.{not}
use Rattle.bit_values.specs.Bits.{Word, word}
use Rattle.bit_values.specs.Widths.{bit, holds, either_width, sound_width, cast_word}
use Rattle.bit_values.specs.Operators.{left_place, right_place, own_of}
use Rattle.lex_text.specs.Names.{same_text}
use Rattle.network_run.specs.PathMeaning.{Doing}
use Rattle.indus_tree.specs.Tree.{Shape, one, list, set, dict, Decl, Expr, Exprs, num, flag, read, count, index, member, negation, inversion, binary, cast, none, more}
use Rattle.indus_tree.specs.State.{Hop, Held, lookup, width_of, held_width, shape_width, nothing_of}
use Rattle.indus_tree.specs.Reads.{Items, Seen, or_word, item_in, scalar, built_in_word, word_by_kind, variable_word, name_word}
use Rattle.indus_tree.specs.Keys.{has_item, has_first, has_by_kind, has, at_key_by_kind, at_key, index_widths, member_widths, widths_for, first_width, other_widths}
use Rattle.indus_tree.specs.Operators.{operate, class_of}
use Rattle.indus_tree.specs.Value.{own_width, value_of, key_of, values_of, inverted}
use Rattle.indus_tree.specs.Meaning.{seen_by}
use Rattle.indus_tree.specs.Hops.{variable_number}
use Rattle.indus_tree.specs.Shapes.{HasWidth, IsTeleCount, IsHeld, AreShaped}
use Rattle.indus_tree.specs.declared.tree.DeclKind.{DeclKind}
use Rattle.indus_tree.specs.declared.tree.DeclKind.TheVariants.{Tele, Sensor, Header, Control}
use Rattle.indus_tree.specs.declared.tree.Op.{Op}
use Rattle.indus_tree.specs.declared.tree.Op.TheVariants.{Both, Either, Equal}
use Rattle.indus_tree.specs.declared.tree.Ty.{Ty}
use Rattle.indus_tree.specs.declared.tree.Ty.TheVariants as ty
use Rattle.indus_scopes.specs.Scopes.{Around, Sight, role_of, item_of, builtin_of}
use Rattle.indus_scopes.specs.Uses.{is_missing, is_one, reads, counts, indexed, may_hold}
use Rattle.indus_scopes.specs.declared.kind.Kind.{Kind}
use Rattle.lower_lists.specs.Names.{item_name, count_name, is_plain}
use Rattle.indus_rules.specs.Rules.{walked}
use Rattle.lower_lists.specs.declared.place.Bound.{Bound}
use Rattle.lower_lists.specs.declared.place.ListPlace.{ListPlace}
use Rattle.lower_lists.specs.Flat.{list_of, list_in, list_of_shape, list_number, number_in, target, name_in, name_of_kind, found, or_item, source, byte, has_item as tests_item, is_item, halves, joined, any_item, flat_member, flat_expr, flat_exprs}
use Rattle.flat_laws.specs.Numbered.{scalar_decl, numbered, numbered_hop, numbered_shape, ArePlain, Holds, HoldsList, Numbers}
use Rattle.lower_lists.proofs.Halves.{one_left, more_left}
use Rattle.flat_laws.proofs.Lookups.{numbered_at, numbered_other, shape_scalar, shape_count, shape_item, IsOther}
use Rattle.flat_laws.proofs.Writes.{sees, name_is, more_is}
use Rattle.flat_laws.proofs.Pushes.{word_at}
use Rattle.flat_laws.proofs.States.{has_number, number_small, some_is}
use Rattle.flat_laws.proofs.Joined.{range, any, any_value, both_is}
use Rattle.flat_laws.proofs.Suits.{IsKnown, Suits, AllSuit}
use Rattle.flat_laws.proofs.Roles.{IsList, Readable, scalar_var, own_name, readable, own_plain, counted, AreShapely, IsKept, index_kept, IsSet, Holder, in_set, in_list, holder}

-- ---- membership

-- truth values that are the same one by one
range_same : (g : Bool → Bool → Bool) (e : Bool) (t u : ℕ → Bool) (n : ℕ) → ((k : ℕ) → k < n → t k ≡ u k) → range g e t 0 n ≡ range g e u 0 n
range_same g e t u zero h = refl
range_same g e t u (suc n) h = ap₂ g (range_same g e t u n (λ k lt. h k (omega arith))) (let s : 0 + n ≡ n = omega arith in ap t s ∙ h n (omega arith) ∙ ap u (sym s))

or_assoc : (a b c : Bool) → ((a || b) || c) ≡ (a || (b || c))
or_assoc true b c = refl
or_assoc false b c = refl

or_false : (a : Bool) → (a || false) ≡ a
or_false true = refl
or_false false = refl

-- the first one apart
any_front : (t : ℕ → Bool) (n : ℕ) → any t (suc n) ≡ (t 0 || any (λ k. t (suc k)) n)
any_front t zero = (let s : 0 + 0 ≡ 0 = refl in refl) ∙ sym (or_false (t 0))
any_front t (suc n) =
    let s : 0 + suc n ≡ suc (0 + n) = omega arith in
    ap₂ ◌||◌ (any_front t n) (ap t s) ∙ or_assoc (t 0) (any (λ k. t (suc k)) n) (t (suc (0 + n)))

none_holds : (n : ℕ) → any (λ k. false) n ≡ false
none_holds zero = refl
none_holds (suc n) = ap (λ b. b || false) (none_holds n)

lower : (a b : ℕ) → nat_lt (suc a) (suc b) ≡ nat_lt a b
lower a b = ⊎_elim (λ (lt : a < b). lt-ltb (suc a) (suc b) (omega arith) ∙ sym (lt-ltb a b lt)) (λ (ge : b ≤ a). le-ltb (suc a) (suc b) (omega arith) ∙ sym (le-ltb a b ge)) (cases_lt a b)

pub any_member : (z : Word) (key : Word) (ws : List Word) (n : ℕ) → length ws ≤ n → any (λ k. nat_lt k (length ws) && nat_eq (word_at z ws k).value key.value) n ≡ has_item ws key
any_member z key [] n le = range_same ◌||◌ false (λ k. nat_lt k 0 && nat_eq (word_at z [] k).value key.value) (λ k. false) n (λ k lt. ap (λ b. b && nat_eq (word_at z [] k).value key.value) (le-ltb k 0 (omega arith))) ∙ none_holds n
any_member z key (x ∷ ws) zero le = absurd (omega arith)
any_member z key (x ∷ ws) (suc n) le =
    any_front (λ k. nat_lt k (suc (length ws)) && nat_eq (word_at z (x ∷ ws) k).value key.value) n
    ∙ ap₂ ◌||◌ (ap (λ b. b && nat_eq x.value key.value) (lt-ltb 0 (suc (length ws)) (omega arith)))
    (range_same ◌||◌ false (λ k. nat_lt (suc k) (suc (length ws)) && nat_eq (word_at z ws k).value key.value) (λ k. nat_lt k (length ws) && nat_eq (word_at z ws k).value key.value) n (λ k lt. ap (λ b. b && nat_eq (word_at z ws k).value key.value) (lower k (length ws)))
    ∙ any_member z key ws n (omega arith))

-- ---- declarations, as those of a well-typed property are

pub record IsReady (ds : List Decl) : Type 0 where
  pub plain : ArePlain ds
  pub few : length ds ≤ 2 ^ 32
  pub small : (x : List ℕ) (d : Decl) (t : Ty) (n : ℕ) → lookup ds x ≡ Some d → d.shape ≡ list t n → n ≤ 255
  pub wide : (x : List ℕ) (d : Decl) (t : Ty) (n : ℕ) → lookup ds x ≡ Some d → d.shape ≡ list t n → (1 ≤ width_of t) × (width_of t ≤ 128)
  pub shapely : AreShapely ds
  pub own : (x : List ℕ) (d : Decl) → lookup ds x ≡ Some d → builtin_of x ≡ None

plain_step : (b : Bool) (c d : Decl) (x : List ℕ) (o : Option Decl) → same_text c.name x ≡ b → is_plain c.name ≡ true → (o ≡ Some d → is_plain x ≡ true) → cond b (Some c) o ≡ Some d → is_plain x ≡ true
plain_step true c d x o e p rest q = ap is_plain (sym ((bytes_eq-Decides c.name x).0 e)) ∙ p
plain_step false c d x o e p rest q = rest q

pub declared_plain : (ds : List Decl) (x : List ℕ) (d : Decl) → ArePlain ds → lookup ds x ≡ Some d → is_plain x ≡ true
declared_plain [] x d p e = absurd (cc e)
declared_plain (c ∷ cs) x d p e = plain_step (same_text c.name x) c d x (lookup cs x) refl p.0 (declared_plain cs x d p.1) e

sound_is : (w : ℕ) → 1 ≤ w → w ≤ 128 → sound_width w ≡ w
sound_is zero lo hi = absurd (omega arith)
sound_is (suc w) lo hi = ap (λ b. cond b (suc w) 128) (le-leb (suc w) 128 hi)

first_width_is : (w u : ℕ) → 1 ≤ w → either_width w u ≡ w
first_width_is zero u lo = absurd (omega arith)
first_width_is (suc w) u lo = refl

other_decl : (d : Decl) → (d.kind ≡ Tele → ⊥) → (o : Option Decl) → o ≡ Some d → IsOther o
other_decl d n None e = tt
other_decl d n (Some c) e = λ h. n (ap (λ (a : Decl). a.kind) (sym (some_is c d e)) ∙ h)

pub name_none : (o : Option ℕ) (x : List ℕ) → name_in o None x ≡ x
name_none None x = refl
name_none (Some v) x = refl

name_kept : (k : DeclKind) (v : ℕ) (x : List ℕ) → (k ≡ Tele → ⊥) → name_of_kind k v x ≡ x
name_kept Tele v x n = absurd (n refl)
name_kept Sensor v x n = refl
name_kept Header v x n = refl
name_kept Control v x n = refl

pub name_other : (o : Option ℕ) (d : Decl) (x : List ℕ) → (d.kind ≡ Tele → ⊥) → name_in o (Some d) x ≡ x
name_other None d x n = refl
name_other (Some v) d x n = name_kept d.kind v x n

-- ---- items of loops

-- an item is at its place of a list that a surrounding loop walks
pub record IsShown (ds : List Decl) (loops : List Around) (tele : Held) (b : Bound) (w : Word) : Type 0 where
  pub name : List ℕ
  pub is : IsList ds name
  pub number : variable_number ds name ≡ Some b.list
  pub value : slice_get (tele name) b.turn ≡ Some w
  pub walks : walked loops name ≡ true

abbrev pub StandsAt : List Decl → List Around → Held → Option Kind → Option Bound → Option Word → Type 0
StandsAt ds ls tele None None None = Unit {0}
StandsAt ds ls tele (Some k) (Some b) (Some w) = IsShown ds ls tele b w
StandsAt ds ls tele _ _ _ = ⊥

-- the names of items stand for the same, here and there
pub record Stands (ds : List Decl) (loops : List Around) (items : Items) (bs : List Bound) (tele : Held) : Type 0 where
  pub at : (x : List ℕ) → StandsAt ds loops tele (item_of ds loops x) (found bs x) (item_in items x)

module _ (g : Sight) (r : IsReady g.decls) (h0 : Hop) where
  abbrev pub ds : List Decl
  ds = g.decls

  abbrev pub hop : Hop
  hop = record h0 { decls = g.decls }

  abbrev pub inside : List Around → Sight
  inside ls = record g { loops = ls }

  -- ---- what numbered names are declared as

  pub count_found : (x : List ℕ) (l : IsList ds x) (v : ℕ) → variable_number ds x ≡ Some v → lookup (numbered ds) (count_name v) ≡ Some (scalar_decl l.decl.at (count_name v) (ty.Bit 8))
  count_found x l v e =
      numbered_at ds 0 x l.decl v r.plain (omega (arith, r.few)) l.found e l.kind None (scalar_decl l.decl.at (count_name v) (ty.Bit 8))
      (ap (λ (s : Shape). lookup (numbered_shape l.decl.at v s) (count_name v)) l.shape ∙ shape_count l.decl.at v l.item l.size)

  pub item_found : (x : List ℕ) (l : IsList ds x) (v : ℕ) → variable_number ds x ≡ Some v → (i : ℕ) → i < l.size → lookup (numbered ds) (item_name v i) ≡ Some (scalar_decl l.decl.at (item_name v i) l.item)
  item_found x l v e i lt =
      numbered_at ds 0 x l.decl v r.plain (omega (arith, r.few)) l.found e l.kind (Some i) (scalar_decl l.decl.at (item_name v i) l.item)
      (ap (λ (s : Shape). lookup (numbered_shape l.decl.at v s) (item_name v i)) l.shape
      ∙ shape_item l.decl.at v l.item l.size i (number_small ds x v r.few e) (let small : l.size ≤ 255 = r.small x l.decl l.item l.size l.found l.shape in omega arith) lt)

  pub scalar_found : (x : List ℕ) (d : Decl) (t : Ty) (v : ℕ) → lookup ds x ≡ Some d → d.kind ≡ Tele → d.shape ≡ one t → variable_number ds x ≡ Some v → lookup (numbered ds) (item_name v 0) ≡ Some (scalar_decl d.at (item_name v 0) t)
  scalar_found x d t v e k q n =
      numbered_at ds 0 x d v r.plain (omega (arith, r.few)) e n k (Some 0) (scalar_decl d.at (item_name v 0) t)
      (ap (λ (s : Shape). lookup (numbered_shape d.at v s) (item_name v 0)) q ∙ shape_scalar d.at v t)

  pub kept_found : (x : List ℕ) (k : IsKept ds x) → lookup (numbered ds) x ≡ lookup ds x
  kept_found x k = numbered_other ds 0 x (declared_plain ds x k.decl r.plain k.found) (omega (arith, r.few)) (other_decl k.decl k.kind (lookup ds x) k.found)

  -- ---- states

  module _ (ls : List Around) (items : Items) (bs : List Bound) (s f : Doing Held Held) (n : Numbers ds s f) (k : AreShaped ds s) (st : Stands ds ls items bs s.tele) where
    abbrev F : Seen
    F = sees hop f

    abbrev S : Seen
    S = seen_by hop items s

    pub held_list : (x : List ℕ) (l : IsList ds x) → IsHeld IsTeleCount (list l.item l.size) (s.tele x)
    held_list x l = subst (λ (q : Shape). IsHeld IsTeleCount q (s.tele x)) l.shape (k.tele x l.decl l.found l.kind)

    pub list_holds : (x : List ℕ) (l : IsList ds x) (v : ℕ) → variable_number ds x ≡ Some v → HoldsList v l.item l.size (s.tele x) f.tele
    list_holds x l v e = subst (λ (q : Shape). Holds v q (s.tele x) f.tele) l.shape (n.tele x l.decl v l.found e l.kind)

    pub count_is : (x : List ℕ) (l : IsList ds x) (v : ℕ) → variable_number ds x ≡ Some v → name_word F (count_name v) ≡ word 8 (length (s.tele x))
    count_is x l v e = name_is hop l.decl.at (count_name v) (ty.Bit 8) (count_found x l v e) f (word 8 (length (s.tele x))) (list_holds x l v e).count

    item_is : (x : List ℕ) (l : IsList ds x) (v : ℕ) → variable_number ds x ≡ Some v → (i : ℕ) → i < l.size → name_word F (item_name v i) ≡ word_at (nothing_of (width_of l.item)) (s.tele x) i
    item_is x l v e i lt = name_is hop l.decl.at (item_name v i) l.item (item_found x l v e i lt) f (word_at (nothing_of (width_of l.item)) (s.tele x) i) ((list_holds x l v e).items i lt)

    shown_is : (b : Bound) (w : Word) → IsShown ds ls s.tele b w → name_word F (item_name b.list b.turn) ≡ w
    shown_is b w sh =
        let within : b.turn < length (s.tele sh.name) = slice_get_within (s.tele sh.name) b.turn w sh.value in
        item_is sh.name sh.is b.list sh.number b.turn (omega (arith, (held_list sh.name sh.is).count))
        ∙ ap (λ (o : Option Word). or_word o (nothing_of (width_of sh.is.item))) sh.value

    -- ---- names

    kind_is : (x : List ℕ) (q : DeclKind) (w : ℕ) → (q ≡ Tele → ⊥) → word_by_kind q F x w ≡ word_by_kind q S x w
    kind_is x Tele w ne = absurd (ne refl)
    kind_is x Sensor w ne = ap (λ (c : Held). scalar (c x) w) n.sensors
    kind_is x Header w ne = refl
    kind_is x Control w ne = refl

    kept_is : (x : List ℕ) (d : Decl) → lookup ds x ≡ Some d → (d.kind ≡ Tele → ⊥) → name_word F (target ds x) ≡ variable_word S x (lookup ds x)
    kept_is x d e ne =
        ap (name_word F) (ap (λ o. name_in (variable_number ds x) o x) e ∙ name_other (variable_number ds x) d x ne)
        ∙ ap (variable_word F x) (kept_found x (record { decl = d; found = e; kind = ne }) ∙ e)
        ∙ kind_is x d.kind (held_width (Some d)) ne
        ∙ ap (variable_word S x) (sym e)

    scalar_is : (x : List ℕ) (d : Decl) (t : Ty) (v : ℕ) → lookup ds x ≡ Some d → d.kind ≡ Tele → d.shape ≡ one t → variable_number ds x ≡ Some v → name_word F (target ds x) ≡ variable_word S x (lookup ds x)
    scalar_is x d t v e q sh m =
        let named : target ds x ≡ item_name v 0 = ap₂ (λ o p. name_in o p x) m e ∙ ap (λ c. name_of_kind c v x) q in
        let holds_it : f.tele (item_name v 0) ≡ s.tele x = subst (λ (z : Shape). Holds v z (s.tele x) f.tele) sh (n.tele x d v e m q) in
        ap (name_word F) named
        ∙ ap (variable_word F (item_name v 0)) (scalar_found x d t v e q sh m)
        ∙ ap (λ ws. scalar ws (width_of t)) holds_it
        ∙ ap (λ z. scalar (s.tele x) (shape_width z)) (sym sh)
        ∙ ap (λ c. word_by_kind c S x (held_width (Some d))) (sym q)
        ∙ ap (variable_word S x) (sym e)

    by_kind : (x : List ℕ) (d : Decl) (t : Ty) → lookup ds x ≡ Some d → d.shape ≡ one t → (q : DeclKind) → d.kind ≡ q → name_word F (target ds x) ≡ variable_word S x (lookup ds x)
    by_kind x d t e sh Tele q = let m = has_number ds 0 x d e in scalar_is x d t m.0 e q sh m.1
    by_kind x d t e sh Sensor q = kept_is x d e (λ h. let c : Sensor ≡ Tele = sym q ∙ h in cc)
    by_kind x d t e sh Header q = kept_is x d e (λ h. let c : Header ≡ Tele = sym q ∙ h in cc)
    by_kind x d t e sh Control q = kept_is x d e (λ h. let c : Control ≡ Tele = sym q ∙ h in cc)

    own_is : (x : List ℕ) (c : Kind) → builtin_of x ≡ Some c → (o : Option Decl) → lookup ds x ≡ o → name_word F (target ds x) ≡ variable_word S x (lookup ds x)
    own_is x c b (Some d) e = absurd (let both : None ≡ Some c = sym (r.own x d e) ∙ b in cc)
    own_is x c b None e =
        ap (name_word F) (ap (λ o. name_in (variable_number ds x) o x) e ∙ name_none (variable_number ds x) x)
        ∙ ap (variable_word F x) (numbered_other ds 0 x (own_plain x c b) (omega (arith, r.few)) (subst IsOther (sym e) tt) ∙ e)
        ∙ ap (variable_word S x) (sym e)

    free_is : (x : List ℕ) → Readable ds x → name_word F (target ds x) ≡ variable_word S x (lookup ds x)
    free_is x (scalar_var d t e sh) = by_kind x d t e sh d.kind refl
    free_is x (own_name c e) = own_is x c e (lookup ds x) refl

    read_at : (x : List ℕ) (c : Option Kind) (b : Option Bound) (o : Option Word) → found bs x ≡ b → item_in items x ≡ o → StandsAt ds ls s.tele c b o → (c ≡ None → Readable ds x) → name_word F (or_item b (target ds x)) ≡ or_word o (variable_word S x (lookup ds x))
    read_at x None None None eb eo sa free = free_is x (free refl)
    read_at x (Some c) (Some b) (Some w) eb eo sa free = shown_is b w sa
    read_at x None None (Some w) eb eo sa free = absurd sa
    read_at x None (Some b) o eb eo sa free = absurd sa
    read_at x (Some c) None o eb eo sa free = absurd sa
    read_at x (Some c) (Some b) None eb eo sa free = absurd sa

    pub read_is : (x : List ℕ) → IsKnown (inside ls) x → reads (role_of (inside ls) x) ≡ true → name_word F (source ds bs x) ≡ name_word S x
    read_is x known used = read_at x (item_of ds ls x) (found bs x) (item_in items x) refl refl (st.at x) (λ e. readable (inside ls) x e known used)

    -- ---- a membership in a list

    module _ (x : List ℕ) (l : IsList ds x) (v : ℕ) (number : variable_number ds x ≡ Some v) (e e' : Expr) (key : Word)
        (key_is : cast_word (sound_width (width_of l.item)) (value_of F e' (width_of l.item)) ≡ key) where
      abbrev w : ℕ
      w = width_of l.item

      abbrev z : Word
      z = nothing_of w

      -- the word at a place is of the items' width
      at_fits : (ws : List Word) → All (HasWidth w) ws → (i : ℕ) → HasWidth w (word_at z ws i)
      at_fits ws all i = by_place (slice_get ws i) refl
        where
          by_place : (o : Option Word) → slice_get ws i ≡ o → HasWidth w (or_word o z)
          by_place None q = record { width = refl; in_range = pow_pos (sound_width w) }
          by_place (Some a) q = subst (HasWidth w) (get_or_from_slice_get ws i a a q) (all i a (slice_get_within ws i a q))

      equal_item : (p i : ℕ) → i < l.size → value_of F (binary p Equal (read p (item_name v i)) e') 1 ≡ bit (nat_eq (word_at z (s.tele x) i).value key.value)
      equal_item p i lt =
          let a : Word = word_at z (s.tele x) i in
          let fit : HasWidth w a = at_fits (s.tele x) (held_list x l).words i in
          let wide = r.wide x l.decl l.item l.size l.found l.shape in
          let same : sound_width w ≡ w = sound_is w wide.0 wide.1 in
          let aw : a.width ≡ w = fit.width ∙ same in
          let place : either_width a.width (own_width F e') ≡ w = ap (λ m. either_width m (own_width F e')) aw ∙ first_width_is w (own_width F e') wide.0 in
          ap (λ (b : Word). operate Equal (cast_word (sound_width (left_place (class_of Equal) b.width (own_width F e') 1)) b) (cast_word (sound_width (right_place (class_of Equal) b.width (own_width F e') 1)) (value_of F e' (right_place (class_of Equal) b.width (own_width F e') 1)))) (item_is x l v number i lt)
          ∙ ap (λ m. operate Equal (cast_word (sound_width m) a) (cast_word (sound_width m) (value_of F e' m))) place
          ∙ ap₂ (λ m (b : Word). bit (nat_eq m b.value)) (mod-eq_of_lt fit.in_range) key_is

      pub tests_is : (p u : ℕ) → value_of F (any_item p e' (record { number = v; item = l.item; size = l.size })) u ≡ bit (has_item (s.tele x) key)
      tests_is p u =
          let short = (held_list x l).count in
          let small = r.small x l.decl l.item l.size l.found l.shape in
          any_value F p (is_item p e' v) (λ j. nat_lt j (length (s.tele x)) && nat_eq (word_at z (s.tele x) j).value key.value) l.size u
          (λ j m lt.
          both_is F p (tests_item p v j) (binary p Equal (read p (item_name v j)) e') m (nat_lt j (length (s.tele x))) (nat_eq (word_at z (s.tele x) j).value key.value)
          (more_is F p (count_name v) (length (s.tele x)) (count_is x l v number) (omega arith) j (omega arith) 1)
          (equal_item p j lt))
          ∙ ap bit (any_member z key (s.tele x) l.size short)

    pub list_place : (x : List ℕ) (l : IsList ds x) (v : ℕ) → variable_number ds x ≡ Some v → list_of ds x ≡ Some (record { number = v; item = l.item; size = l.size })
    list_place x l v e = ap₂ list_in e l.found ∙ ap (list_of_shape v) l.shape

    -- a variable that is no list is none
    no_list_at : (o : Option ℕ) (d : Decl) (keys : List Ty) → d.shape ≡ set keys → list_in o (Some d) ≡ None
    no_list_at None d keys e = refl
    no_list_at (Some v) d keys e = ap (list_of_shape v) e

    no_list : (x : List ℕ) (q : IsSet ds x) → list_of ds x ≡ None
    no_list x q = ap (list_in (variable_number ds x)) q.kept.found ∙ no_list_at (variable_number ds x) q.kept.decl q.keys q.shape

    -- ---- the width that an expression has of its own

    item_width : (p : ℕ) (e : Expr) (v m : ℕ) → own_width F (joined p Either false (is_item p e v) m) ≡ 1
    item_width p e v zero = refl
    item_width p e v (suc m) =
        ⊎_elim
        (λ (lt : 1 < suc m). ap (own_width F) (more_left p Either (is_item p e v) m 0 (suc m) lt))
        (λ (ge : suc m ≤ 1). ap (own_width F) (one_left p Either (is_item p e v) (suc m) 0 (suc m) ge))
        (cases_lt 1 (suc m))

    member_width : (p : ℕ) (ks : Exprs) (x : List ℕ) (o : Option ListPlace) → own_width F (flat_member p ks x o) ≡ 1
    member_width p ks x None = refl
    member_width p none x (Some l) = refl
    member_width p (more e es) x (Some l) = item_width p e l.number l.size

    list_number_is : (x : List ℕ) (l : IsList ds x) (v : ℕ) → variable_number ds x ≡ Some v → list_number ds x ≡ v
    list_number_is x l v e = ap number_in (list_place x l v e)

    counted_is : (x : List ℕ) → IsList ds x → name_word F (count_name (list_number ds x)) ≡ word 8 (length (s.tele x))
    counted_is x l =
        let m = has_number ds 0 x l.decl l.found in
        ap (λ v. name_word F (count_name v)) (list_number_is x l m.0 m.1) ∙ count_is x l m.0 m.1

    pub flat_width : (e : Expr) → Suits (inside ls) e → own_width F (flat_expr ds bs e) ≡ own_width S e
    flat_width (num p c) u = refl
    flat_width (flag p c) u = refl
    flat_width (read p x) u = ap (λ (c : Word). c.width) (read_is x u.0 u.1)
    flat_width (count p x) u = ap (λ (c : Word). c.width) (counted_is x (counted (inside ls) x u.0 u.1))
    flat_width (index p x ks) u = ap held_width (kept_found x (index_kept (inside ls) x ks r.shapely u.0 u.1))
    flat_width (member p ks x) u = member_width p (flat_exprs ds bs ks) x (list_of ds x)
    flat_width (negation p a) u = refl
    flat_width (inversion p a) u = flat_width a u
    flat_width (binary p op a b) u = ap₂ (own_of (class_of op)) (flat_width a u.0) (flat_width b u.1)
    flat_width (cast p c a) u = refl

    -- ---- the value

    at_key_is : (x : List ℕ) (o : Option Decl) (key : List Word) → at_key F x o key ≡ at_key S x o key
    at_key_is x None key = refl
    at_key_is x (Some d) key = by_decl d.kind (held_width (Some d))
      where
        by_decl : (q : DeclKind) (m : ℕ) → at_key_by_kind q F x key m ≡ at_key_by_kind q S x key m
        by_decl Tele m = refl
        by_decl Sensor m = ap (λ (c : Held). at_key_by_kind Sensor (record S { sensors = c }) x key m) n.sensors
        by_decl Header m = refl
        by_decl Control m = refl

    has_is : (x : List ℕ) (d : Decl) (key : List Word) → (d.kind ≡ Tele → ⊥) → has F x (Some d) key ≡ has S x (Some d) key
    has_is x d key ne = by_decl d.kind ne
      where
        by_decl : (q : DeclKind) → (q ≡ Tele → ⊥) → has_by_kind q F x key ≡ has_by_kind q S x key
        by_decl Tele none_is = absurd (none_is refl)
        by_decl Sensor none_is = refl
        by_decl Header none_is = refl
        by_decl Control none_is = refl

    byte_count : (x : List ℕ) → IsList ds x → word 8 (length (s.tele x)) ≡ word 8 (length (s.tele x) % 2 ^ 8)
    byte_count x l =
        let small = r.small x l.decl l.item l.size l.found l.shape in
        let short = (held_list x l).count in
        let lt : length (s.tele x) < 2 ^ 8 = omega arith in
        ap (word 8) (sym (mod-eq_of_lt lt))

    -- the one value at the left of `in`
    one_key : (x : List ℕ) (l : IsList ds x) (e : Expr) → key_of S (more e none) (widths_for member_widths (lookup ds x)) ≡ cast_word (sound_width (width_of l.item)) (value_of S e (width_of l.item)) ∷ []
    one_key x l e =
        ap (λ o. key_of S (more e none) (widths_for member_widths o)) l.found
        ∙ ap (λ (q : Shape). key_of S (more e none) (member_widths q)) l.shape

    in_list_is : (p u : ℕ) (x : List ℕ) (l : IsList ds x) (ks : Exprs) → is_one ks ≡ true
        → ((e : Expr) → ks ≡ more e none → (m : ℕ) → value_of F (flat_expr ds bs e) m ≡ value_of S e m)
        → value_of F (flat_member p (flat_exprs ds bs ks) x (list_of ds x)) u ≡ bit (has S x (lookup ds x) (key_of S ks (widths_for member_widths (lookup ds x))))
    in_list_is p u x l none h same = absurd (let c : false ≡ true = h in cc)
    in_list_is p u x l (more e (more a b)) h same = absurd (let c : false ≡ true = h in cc)
    in_list_is p u x l (more e none) h same =
        let m = has_number ds 0 x l.decl l.found in
        let key : Word = cast_word (sound_width (width_of l.item)) (value_of S e (width_of l.item)) in
        ap (λ o. value_of F (flat_member p (more (flat_expr ds bs e) none) x o) u) (list_place x l m.0 m.1)
        ∙ tests_is x l m.0 m.1 e (flat_expr ds bs e) key (ap (cast_word (sound_width (width_of l.item))) (same e refl (width_of l.item))) p u
        ∙ ap (λ q. bit (has_by_kind q S x (key ∷ []))) (sym l.kind)
        ∙ ap (λ o. bit (has S x o (key ∷ []))) (sym l.found)
        ∙ ap (λ q. bit (has S x (lookup ds x) q)) (sym (one_key x l e))

    in_set_is : (p u : ℕ) (x : List ℕ) (q : IsSet ds x) (ks : Exprs)
        → ((ws : List ℕ) → key_of F (flat_exprs ds bs ks) ws ≡ key_of S ks ws)
        → value_of F (flat_member p (flat_exprs ds bs ks) x (list_of ds x)) u ≡ bit (has S x (lookup ds x) (key_of S ks (widths_for member_widths (lookup ds x))))
    in_set_is p u x q ks same =
        ap (λ o. value_of F (flat_member p (flat_exprs ds bs ks) x o) u) (no_list x q)
        ∙ ap (λ o. bit (has F x o (key_of F (flat_exprs ds bs ks) (widths_for member_widths o)))) (kept_found x q.kept)
        ∙ ap (λ key. bit (has F x (lookup ds x) key)) (same (widths_for member_widths (lookup ds x)))
        ∙ ap (λ o. bit (has F x o (key_of S ks (widths_for member_widths (lookup ds x))))) q.kept.found
        ∙ ap bit (has_is x q.kept.decl (key_of S ks (widths_for member_widths (lookup ds x))) q.kept.kind)
        ∙ ap (λ o. bit (has S x o (key_of S ks (widths_for member_widths (lookup ds x))))) (sym q.kept.found)

    held_is : (p u : ℕ) (x : List ℕ) (ks : Exprs) → Holder ds x ks
        → ((ws : List ℕ) → key_of F (flat_exprs ds bs ks) ws ≡ key_of S ks ws)
        → ((e : Expr) → ks ≡ more e none → (m : ℕ) → value_of F (flat_expr ds bs e) m ≡ value_of S e m)
        → value_of F (flat_member p (flat_exprs ds bs ks) x (list_of ds x)) u ≡ bit (has S x (lookup ds x) (key_of S ks (widths_for member_widths (lookup ds x))))
    held_is p u x ks (in_set q) same one_same = in_set_is p u x q ks same
    held_is p u x ks (in_list l h) same one_same = in_list_is p u x l ks h one_same

    sole_key : (b e : Expr) (es : Exprs) → more b es ≡ more e none → b ≡ e
    sole_key b e es q = cc q

    mutual
      pub flat_value : (e : Expr) (w : ℕ) → Suits (inside ls) e → value_of F (flat_expr ds bs e) w ≡ value_of S e w
      flat_value (num p c) w u = refl
      flat_value (flag p c) w u = refl
      flat_value (read p x) w u = read_is x u.0 u.1
      flat_value (count p x) w u = let l = counted (inside ls) x u.0 u.1 in counted_is x l ∙ byte_count x l
      flat_value (index p x ks) w u =
          ap (λ o. at_key F x o (key_of F (flat_exprs ds bs ks) (widths_for index_widths o))) (kept_found x (index_kept (inside ls) x ks r.shapely u.0 u.1))
          ∙ ap (at_key F x (lookup ds x)) (flat_key ks (widths_for index_widths (lookup ds x)) u.2)
          ∙ at_key_is x (lookup ds x) (key_of S ks (widths_for index_widths (lookup ds x)))
      flat_value (member p ks x) w u = held_is p w x ks (holder (inside ls) x ks r.shapely u.0 u.1) (λ ws. flat_key ks ws u.2) (flat_sole ks u.2)
      flat_value (negation p a) w u = ap (λ (c : Word). bit (not (holds c))) (flat_value a 1 u)
      flat_value (inversion p a) w u = ap inverted (flat_value a w u)
      flat_value (binary p op a b) w u =
          let l : ℕ = left_place (class_of op) (own_width S a) (own_width S b) w in
          let o : ℕ = right_place (class_of op) (own_width S a) (own_width S b) w in
          ap₂ (λ c d. operate op (cast_word (sound_width (left_place (class_of op) c d w)) (value_of F (flat_expr ds bs a) (left_place (class_of op) c d w))) (cast_word (sound_width (right_place (class_of op) c d w)) (value_of F (flat_expr ds bs b) (right_place (class_of op) c d w)))) (flat_width a u.0) (flat_width b u.1)
          ∙ ap₂ (λ (c d : Word). operate op (cast_word (sound_width l) c) (cast_word (sound_width o) d)) (flat_value a l u.0) (flat_value b o u.1)
      flat_value (cast p c a) w u = ap (cast_word (sound_width c)) (flat_value a 0 u)

      flat_key : (ks : Exprs) (ws : List ℕ) → AllSuit (inside ls) ks → key_of F (flat_exprs ds bs ks) ws ≡ key_of S ks ws
      flat_key none ws u = refl
      flat_key (more e es) ws u =
          let o : ℕ = first_width ws (own_width S e) in
          ap (λ c. cast_word (sound_width (first_width ws c)) (value_of F (flat_expr ds bs e) (first_width ws c)) ∷ key_of F (flat_exprs ds bs es) (other_widths ws)) (flat_width e u.0)
          ∙ ap₂ (λ (c : Word) (cs : List Word). cast_word (sound_width o) c ∷ cs) (flat_value e o u.0) (flat_key es (other_widths ws) u.1)

      flat_sole : (ks : Exprs) → AllSuit (inside ls) ks → (e : Expr) → ks ≡ more e none → (m : ℕ) → value_of F (flat_expr ds bs e) m ≡ value_of S e m
      flat_sole none u e q m = absurd (cc q)
      flat_sole (more b es) u e q m = subst (λ (c : Expr). value_of F (flat_expr ds bs c) m ≡ value_of S c m) (sole_key b e es q) (flat_value b m u.0)

    pub flat_values : (es : Exprs) → AllSuit (inside ls) es → values_of F (flat_exprs ds bs es) ≡ values_of S es
    flat_values none u = refl
    flat_values (more e es) u = ap₂ (λ (c : Word) (cs : List Word). c ∷ cs) (flat_value e 0 u.0) (flat_values es u.1)
