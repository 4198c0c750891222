-- No rule is broken in flat expressions.
use Rattle.std.proofs.Common.{◌≡◌, ◌⊎◌, inl, inr, ⊎_elim, ℕ, zero, suc, ◌+◌, ◌-◌, ◌/◌, ◌<◌, ◌≤◌, ◌^◌, List, [], ◌∷◌, ◌++◌, length, Bool, true, false, ◌&&◌, ◌||◌, cond, Option, Some, None, refl, sym, ap, ap₂, ◌∙◌, arith, subst, nat_eq, nat_lt}
use Rattle.std.specs.Prelude.{not, slice_index}
use Rattle.std.proofs.lemmas.Bool.{cases_lt, lt-ltb, le-ltb}
use Rattle.lex_text.specs.declared.literal.Literal.{Literal}
use Rattle.indus_tree.specs.Tree.{Shape, one, list, set, dict, Expr, Exprs, num, flag, read, count, index, member, negation, inversion, binary, cast, none, more, exprs_count, Decl}
use Rattle.indus_tree.specs.State.{lookup, width_of}
use Rattle.indus_tree.specs.Hops.{variable_number}
use Rattle.indus_tree.specs.declared.tree.DeclKind.{DeclKind}
use Rattle.indus_tree.specs.declared.tree.DeclKind.TheVariants.{Tele}
use Rattle.indus_tree.specs.declared.tree.Op.{Op}
use Rattle.indus_tree.specs.declared.tree.Op.TheVariants.{Less, Equal, Both, Either}
use Rattle.indus_tree.specs.declared.tree.Ty.{Ty}
use Rattle.indus_tree.specs.declared.tree.Ty.TheVariants as ty
use Rattle.indus_scopes.specs.Kinds.{kind_of, is_open, join, as_number, kinds_differ, widths_differ, binary_kind, left_want, right_want}
use Rattle.indus_scopes.specs.Scopes.{Around, Sight, Stands as Role, missing, item, builtin, variable, role_of, read_kind, index_kind, item_of, builtin_of, own}
use Rattle.indus_scopes.specs.Uses.{is_missing, is_hop, is_one, as_many, reads, counts, indexed, may_hold, shape_indexed, shape_holds, is_array, is_list}
use Rattle.indus_scopes.specs.declared.kind.Kind.{Kind}
use Rattle.indus_scopes.specs.declared.kind.Kind.TheVariants.{Number, Truth, Unknown}
use Rattle.indus_rules.specs.Sites.{at_expr, Wants, head_want, tail_wants, index_wants, member_wants, shape_member_wants, expr_sites, all_sites}
use Rattle.indus_rules.specs.Rules.{Fine, broken, is_init}
use Rattle.indus_rules.specs.declared.rule.Rule.{Rule}
use Rattle.indus_rules.specs.declared.rule.Rule.TheVariants.{NoSuchName, WidthDiffers, KindDiffers, WrongBlock, BadSize}
use Rattle.indus_types.proofs.Widths.{neither, twice_not}
use Rattle.lower_lists.specs.Names.{item_name, count_name}
use Rattle.lower_lists.specs.declared.place.Bound.{Bound}
use Rattle.lower_lists.specs.declared.place.ListPlace.{ListPlace}
use Rattle.lower_lists.specs.Flat.{list_in, list_of, list_of_shape, list_number, source, byte, has_item, is_item, halves, joined, any_item, all_have, flat_member, flat_expr, flat_exprs}
use Rattle.lower_lists.proofs.Halves.{one_left, more_left}
use Rattle.flat_laws.specs.Numbered.{scalar_decl, numbered}
use Rattle.flat_laws.proofs.States.{has_number}
use Rattle.flat_laws.proofs.Pushes.{unequal, equal_self}
use Rattle.flat_laws.proofs.Items.{number_of}
use Rattle.flat_laws.proofs.Roles.{IsList, counted, IsKept, index_kept, IsSet, Holder, in_set, in_list, holder}
use Rattle.flat_laws.proofs.Values.{IsReady, kept_found}
use Rattle.flat_laws.proofs.Suits.{Suits, AllSuit}
use Rattle.flat_laws.proofs.Typed.{expr_suits, all_suit}
use Rattle.flat_laws.proofs.FineSites.{expr_site}
use Rattle.flat_laws.proofs.FineNames.{anyhop, flat_sight, IsNumbered, numbered_role, count_numbered, item_numbered, same_role, no_item, list_role, ReadsAs, Placed, read_as}

-- ---- kinds

kinds_alike : (t : Ty) → kinds_differ (kind_of t) (kind_of t) ≡ false
kinds_alike (ty.Bit w) = refl
kinds_alike ty.Bool = refl

pub width_alike : (w : ℕ) (a : Bool) → (a && a && not (nat_eq w w)) ≡ false
width_alike w true = ap not (equal_self w)
width_alike w false = refl

widths_alike : (t : Ty) → widths_differ (kind_of t) (kind_of t) ≡ false
widths_alike (ty.Bit w) = width_alike w (not (nat_eq w 0))
widths_alike ty.Bool = refl

pub closed : (t : Ty) → 1 ≤ width_of t → is_open (kind_of t) ≡ false
closed (ty.Bit w) h = unequal w 0 (λ e. omega arith)
closed ty.Bool h = refl

truth_or_none : (w : Kind) → widths_differ Truth w ≡ false
truth_or_none (Number w) = refl
truth_or_none Truth = refl
truth_or_none Unknown = refl

module _ (g : Sight) (r : IsReady g.decls) where
  abbrev ds : List Decl
  ds = g.decls

  abbrev F : Sight
  F = flat_sight g r

  abbrev inside : List Around → Sight
  inside ls = record g { loops = ls }

  -- ---- tests

  -- a truth value where one is wanted, or nothing
  truth_site : (w : Kind) (e : Expr) → own F e ≡ Truth → kinds_differ Truth w ≡ false → (b : Bool) → b ≡ false → (widths_differ (own F e) w ≡ false) × ((kinds_differ (own F e) w || b) ≡ false)
  truth_site w e o k b n = (ap (λ c. widths_differ c w) o ∙ truth_or_none w, ap₂ (λ c d. kinds_differ c w || d) o n ∙ or_none (kinds_differ Truth w) k)
    where
      or_none : (a : Bool) → a ≡ false → (a || false) ≡ false
      or_none true e = e
      or_none false e = refl

  flag_fine : (p : ℕ) (b : Bool) (w : Kind) → kinds_differ Truth w ≡ false → Fine (expr_sites F w (flag p b))
  flag_fine p b w k = let t = truth_site w (flag p b) refl k false refl in expr_site F w (flag p b) refl t.0 t.1 refl refl

  -- a numbered scalar of a type, where its kind is wanted
  pub read_fine : (p : ℕ) (y : List ℕ) (t : Ty) → IsNumbered g r y t → Fine (expr_sites F (kind_of t) (read p y))
  read_fine p y t n =
      let role = numbered_role g r y t n in
      let kind : own F (read p y) ≡ kind_of t = ap read_kind role in
      expr_site F (kind_of t) (read p y)
      (ap is_missing role)
      (ap (λ k. widths_differ k (kind_of t)) kind ∙ widths_alike t)
      (ap₂ (λ k q. kinds_differ k (kind_of t) || not (reads q)) kind role ∙ ap (λ b. b || false) (kinds_alike t))
      (ap (λ q. is_hop q && is_init g.block) role)
      refl

  pub byte_fine : (p i : ℕ) → i < 256 → Fine (expr_sites F (Number 8) (byte p i))
  byte_fine p i lt = expr_site F (Number 8) (byte p i) refl refl refl refl (ap not (lt-ltb i 256 lt))

  -- a test of a count
  pub count_kind : (p : ℕ) (y : List ℕ) → IsNumbered g r y (ty.Bit 8) → own F (read p y) ≡ Number 8
  count_kind p y n = ap read_kind (numbered_role g r y (ty.Bit 8) n)

  pub has_item_fine : (p v i : ℕ) (w : Kind) → IsNumbered g r (count_name v) (ty.Bit 8) → i < 256 → kinds_differ Truth w ≡ false → Fine (expr_sites F w (has_item p v i))
  has_item_fine p v i w n lt k =
      let t = truth_site w (has_item p v i) refl k false refl in
      (expr_site F w (has_item p v i) refl t.0 t.1 refl refl, (byte_fine p i lt, read_fine p (count_name v) (ty.Bit 8) n))

  is_item_fine : (p v i : ℕ) (e : Expr) (t : Ty) (w : Kind) → IsNumbered g r (count_name v) (ty.Bit 8) → IsNumbered g r (item_name v i) t → i < 256 → 1 ≤ width_of t → Fine (expr_sites F (kind_of t) e) → kinds_differ Truth w ≡ false → Fine (expr_sites F w (is_item p e v i))
  is_item_fine p v i e t w c n lt some f k =
      let whole = truth_site w (is_item p e v i) refl k false refl in
      let equal = truth_site Truth (binary p Equal (read p (item_name v i)) e) refl refl false refl in
      let kind : own F (read p (item_name v i)) ≡ kind_of t = ap read_kind (numbered_role g r (item_name v i) t n) in
      let place : join (own F (read p (item_name v i))) (own F e) ≡ kind_of t = ap (λ q. join q (own F e)) kind ∙ ap (λ b. cond b (own F e) (kind_of t)) (closed t some) in (
        expr_site F w (is_item p e v i) refl whole.0 whole.1 refl refl,
        (
          has_item_fine p v i Truth c lt refl,
          (
            expr_site F Truth (binary p Equal (read p (item_name v i)) e) refl equal.0 equal.1 refl refl,
            (
              subst (λ q. Fine (expr_sites F q (read p (item_name v i)))) (sym place) (read_fine p (item_name v i) t n),
              subst (λ q. Fine (expr_sites F q e)) (sym place) f,
            ),
          ),
        ),
      )

  module _ (p : ℕ) (op : Op) (left : (a b w : Kind) → left_want op a b w ≡ Truth) (right : (a b w : Kind) → right_want op a b w ≡ Truth) (kind : (a b : Kind) → binary_kind op a b ≡ Truth)
      (test : ℕ → Expr) (many : ℕ) (fine : (k : ℕ) (w : Kind) → k < many → kinds_differ Truth w ≡ false → Fine (expr_sites F w (test k))) where
    halves_fine : (fuel first n : ℕ) (w : Kind) → 0 < n → n ≤ fuel → first + n ≤ many → kinds_differ Truth w ≡ false → Fine (expr_sites F w (halves p op test fuel first n))
    halves_fine zero first n w some le in_range k = absurd (omega arith)
    halves_fine (suc fuel) first n w some le in_range k =
        ⊎_elim
        (λ (lt : 1 < n).
        let a : Expr = halves p op test fuel first (n / 2) in
        let b : Expr = halves p op test fuel (first + n / 2) (n - n / 2) in
        let t = truth_site w (binary p op a b) (kind (own F a) (own F b)) k false refl in
        let both_fine : Fine (expr_sites F w (binary p op a b)) = (
          expr_site F w (binary p op a b) refl t.0 t.1 refl refl,
          (
            subst (λ q. Fine (expr_sites F q a)) (sym (left (own F a) (own F b) w)) (halves_fine fuel first (n / 2) Truth (omega arith) (omega arith) (omega arith) refl),
            subst (λ q. Fine (expr_sites F q b)) (sym (right (own F a) (own F b) w)) (halves_fine fuel (first + n / 2) (n - n / 2) Truth (omega arith) (omega arith) (omega arith) refl),
          ),
        ) in
        subst (λ (e : Expr). Fine (expr_sites F w e)) (sym (more_left p op test fuel first n lt)) both_fine)
        (λ (ge : n ≤ 1). subst (λ (e : Expr). Fine (expr_sites F w e)) (sym (one_left p op test (suc fuel) first n ge)) (fine first w (omega arith) k))
        (cases_lt 1 n)

    joined_fine : (b : Bool) (w : Kind) → kinds_differ Truth w ≡ false → (n : ℕ) → n ≡ many → Fine (expr_sites F w (joined p op b test n))
    joined_fine b w k zero e = flag_fine p b w k
    joined_fine b w k (suc n) e = halves_fine (suc n) 0 (suc n) w (omega arith) (omega arith) (omega arith) k

  pub any_fine : (p : ℕ) (e : Expr) (l : ListPlace) (w : Kind) → kinds_differ Truth w ≡ false → ((k : ℕ) (u : Kind) → k < l.size → kinds_differ Truth u ≡ false → Fine (expr_sites F u (is_item p e l.number k))) → Fine (expr_sites F w (any_item p e l))
  any_fine p e l w k f = joined_fine p Either (λ a b u. refl) (λ a b u. refl) (λ a b. refl) (is_item p e l.number) l.size f false w k l.size refl

  pub all_fine : (p : ℕ) (vs : List ℕ) (i : ℕ) → ((k : ℕ) (u : Kind) → k < length vs → kinds_differ Truth u ≡ false → Fine (expr_sites F u (has_item p (slice_index vs k) i))) → Fine (expr_sites F Truth (all_have p vs i))
  all_fine p vs i f = joined_fine p Both (λ a b u. refl) (λ a b u. refl) (λ a b. refl) (λ k. has_item p (slice_index vs k) i) (length vs) f true Truth refl (length vs) refl

  -- ---- what an expression is

  joined_kind : (p : ℕ) (e : Expr) (v n : ℕ) → own F (joined p Either false (is_item p e v) n) ≡ Truth
  joined_kind p e v zero = refl
  joined_kind p e v (suc n) =
      ⊎_elim
      (λ (lt : 1 < suc n). ap (own F) (more_left p Either (is_item p e v) n 0 (suc n) lt))
      (λ (ge : suc n ≤ 1). ap (own F) (one_left p Either (is_item p e v) (suc n) 0 (suc n) ge))
      (cases_lt 1 (suc n))

  member_kind : (p : ℕ) (ks : Exprs) (x : List ℕ) (o : Option ListPlace) → own F (flat_member p ks x o) ≡ Truth
  member_kind p ks x None = refl
  member_kind p none x (Some l) = refl
  member_kind p (more e es) x (Some l) = joined_kind p e l.number l.size

  module _ (ls : List Around) (bs : List Bound) (placed : Placed g r ls bs) where
    -- a name that is read at a key stands for the same
    index_role : (x : List ℕ) (ks : Exprs) → is_missing (role_of (inside ls) x) ≡ false → indexed (role_of (inside ls) x) ks ≡ true → role_of F x ≡ role_of (inside ls) x
    index_role x ks m u =
        same_role g r ls x (no_item g r (λ q. indexed q ks) (λ k. refl) (item_of ds ls x) (builtin_of x) (lookup ds x) u)
        (kept_found g r anyhop x (index_kept (inside ls) x ks r.shapely m u))

    pub kind_same : (e : Expr) → Suits (inside ls) e → own F (flat_expr ds bs e) ≡ own (inside ls) e
    kind_same (num p n) u = refl
    kind_same (flag p b) u = refl
    kind_same (read p x) u = (read_as g r ls x u.0 u.1 bs placed).kind
    kind_same (count p x) u =
        let l = counted (inside ls) x u.0 u.1 in
        count_kind p (count_name (list_number ds x)) (count_numbered g r x l (list_number ds x) (number_of ds x l))
    kind_same (index p x ks) u = ap index_kind (index_role x ks u.0 u.1)
    kind_same (member p ks x) u = member_kind p (flat_exprs ds bs ks) x (list_of ds x)
    kind_same (negation p a) u = refl
    kind_same (inversion p a) u = ap as_number (kind_same a u)
    kind_same (binary p op a b) u = ap₂ (binary_kind op) (kind_same a u.0) (kind_same b u.1)
    kind_same (cast p w a) u = refl

    -- ---- keys

    one_same : (ks : Exprs) → is_one (flat_exprs ds bs ks) ≡ is_one ks
    one_same none = refl
    one_same (more a none) = refl
    one_same (more a (more b es)) = refl

    many_same : (ks : Exprs) (ts : List Ty) → as_many (flat_exprs ds bs ks) ts ≡ as_many ks ts
    many_same none [] = refl
    many_same none (t ∷ ts) = refl
    many_same (more a es) [] = refl
    many_same (more a es) (t ∷ ts) = many_same es ts

    indexed_shape : (k : DeclKind) (s : Shape) (ks : Exprs) → shape_indexed k s (flat_exprs ds bs ks) ≡ shape_indexed k s ks
    indexed_shape k (one t) ks = ap (λ b. is_array k (one t) && b) (one_same ks)
    indexed_shape k (list t n) ks = ap (λ b. is_array k (list t n) && b) (one_same ks)
    indexed_shape k (set ts) ks = ap (λ b. is_array k (set ts) && b) (one_same ks)
    indexed_shape k (dict ts t) ks = many_same ks ts

    indexed_same : (q : Role) (ks : Exprs) → indexed q (flat_exprs ds bs ks) ≡ indexed q ks
    indexed_same missing ks = refl
    indexed_same (item k) ks = refl
    indexed_same (builtin k) ks = refl
    indexed_same (variable d) ks = indexed_shape d.kind d.shape ks

    holds_shape : (k : DeclKind) (s : Shape) (ks : Exprs) → shape_holds k s (flat_exprs ds bs ks) ≡ shape_holds k s ks
    holds_shape k (one t) ks = ap (λ b. is_list k (one t) && b) (one_same ks)
    holds_shape k (list t n) ks = ap (λ b. is_list k (list t n) && b) (one_same ks)
    holds_shape k (set ts) ks = many_same ks ts
    holds_shape k (dict ts t) ks = ap (λ b. is_list k (dict ts t) && b) (one_same ks)

    holds_same : (q : Role) (ks : Exprs) → may_hold q (flat_exprs ds bs ks) ≡ may_hold q ks
    holds_same missing ks = refl
    holds_same (item k) ks = refl
    holds_same (builtin k) ks = refl
    holds_same (variable d) ks = holds_shape d.kind d.shape ks

    pub count_same : (es : Exprs) → exprs_count (flat_exprs ds bs es) ≡ exprs_count es
    count_same none = refl
    count_same (more e es) = ap (λ n. n + 1) (count_same es)

    -- ---- no rule is broken

    member_list : (x : List ℕ) (l : IsList ds x) (v : ℕ) → variable_number ds x ≡ Some v → list_of ds x ≡ Some (record { number = v; item = l.item; size = l.size })
    member_list x l v e = ap₂ list_in e l.found ∙ ap (list_of_shape v) l.shape

    no_list_at : (o : Option ℕ) (d : Decl) (keys : List Ty) → d.shape ≡ set keys → list_in o (Some d) ≡ None
    no_list_at None d keys e = refl
    no_list_at (Some v) d keys e = ap (list_of_shape v) e

    -- the value at the left of `in` is of the items' kind
    sole_fine : (p : ℕ) (x : List ℕ) (w : Kind) (l : IsList ds x) (ks : Exprs) → is_one ks ≡ true → kinds_differ Truth w ≡ false
        → Fine (all_sites F (shape_member_wants (list l.item l.size)) (flat_exprs ds bs ks)) → Fine (expr_sites F w (flat_member p (flat_exprs ds bs ks) x (list_of ds x)))
    sole_fine p x w l none h k f = absurd (let c : false ≡ true = h in cc)
    sole_fine p x w l (more a (more b es)) h k f = absurd (let c : false ≡ true = h in cc)
    sole_fine p x w l (more e none) h k f =
        let m = has_number ds 0 x l.decl l.found in
        let place : ListPlace = record { number = m.0; item = l.item; size = l.size } in
        let small = r.small x l.decl l.item l.size l.found l.shape in
        let wide = r.wide x l.decl l.item l.size l.found l.shape in
        subst (λ o. Fine (expr_sites F w (flat_member p (more (flat_expr ds bs e) none) x o))) (sym (member_list x l m.0 m.1))
        (any_fine p (flat_expr ds bs e) place w k
        (λ i u lt uk. is_item_fine p m.0 i (flat_expr ds bs e) l.item u (count_numbered g r x l m.0 m.1) (item_numbered g r x l m.0 m.1 i lt) (omega arith) wide.0 f.0 uk))

    holder_fine : (p : ℕ) (x : List ℕ) (ks : Exprs) (w : Kind) → Holder ds x ks → Suits (inside ls) (member p ks x) → (site : (q : Rule) → broken q (at_expr (inside ls) w (member p ks x)) ≡ false)
        → ((ws : Wants) → ws ≡ member_wants (role_of (inside ls) x) → Fine (all_sites F ws (flat_exprs ds bs ks))) → Fine (expr_sites F w (flat_member p (flat_exprs ds bs ks) x (list_of ds x)))
    holder_fine p x ks w (in_list l h) u site f =
        let free : item_of ds ls x ≡ None = no_item g r (λ q. may_hold q ks) (λ k. refl) (item_of ds ls x) (builtin_of x) (lookup ds x) u.1 in
        let wants : shape_member_wants (list l.item l.size) ≡ member_wants (role_of (inside ls) x) = ap shape_member_wants (sym l.shape) ∙ ap member_wants (sym (list_role g r ls x l free)) in
        sole_fine p x w l ks h (neither (kinds_differ Truth w) (not (may_hold (role_of (inside ls) x) ks)) (site KindDiffers)).0 (f (shape_member_wants (list l.item l.size)) wants)
    holder_fine p x ks w (in_set q) u site f =
        let free : item_of ds ls x ≡ None = no_item g r (λ q. may_hold q ks) (λ k. refl) (item_of ds ls x) (builtin_of x) (lookup ds x) u.1 in
        let role : role_of F x ≡ role_of (inside ls) x = same_role g r ls x free (kept_found g r anyhop x q.kept) in
        let no_list : list_of ds x ≡ None = ap (list_in (variable_number ds x)) q.kept.found ∙ no_list_at (variable_number ds x) q.kept.decl q.keys q.shape in
        let kinds = neither (kinds_differ Truth w) (not (may_hold (role_of (inside ls) x) ks)) (site KindDiffers) in
        let used : not (may_hold (role_of F x) (flat_exprs ds bs ks)) ≡ false = ap (λ b. not b) (holds_same (role_of F x) ks ∙ ap (λ c. may_hold c ks) role) ∙ kinds.1 in
        let t = truth_site w (member p (flat_exprs ds bs ks) x) refl kinds.0 (not (may_hold (role_of F x) (flat_exprs ds bs ks))) used in
        subst (λ o. Fine (expr_sites F w (flat_member p (flat_exprs ds bs ks) x o))) (sym no_list) (
          expr_site F w (member p (flat_exprs ds bs ks) x) (ap is_missing role ∙ site NoSuchName) t.0 t.1 refl refl,
          f (member_wants (role_of F x)) (ap member_wants role),
        )

    -- a node whose parts are flat
    node_site : (w : Kind) (e e' : Expr) → own F e' ≡ own (inside ls) e → (widths_differ (own (inside ls) e) w ≡ false) → kinds_differ (own (inside ls) e) w ≡ false → (widths_differ (own F e') w ≡ false) × (kinds_differ (own F e') w ≡ false)
    node_site w e e' o v k = (ap (λ c. widths_differ c w) o ∙ v, ap (λ c. kinds_differ c w) o ∙ k)

    or_none : (a b : Bool) → a ≡ false → b ≡ false → (a || b) ≡ false
    or_none true b e f = absurd (let c : true ≡ false = e in cc)
    or_none false b e f = f

    mutual
      pub fine_expr : (e : Expr) (w : Kind) → Fine (expr_sites (inside ls) w e) → Fine (expr_sites F w (flat_expr ds bs e))
      fine_expr (num p n) w f = expr_site F w (num p n) refl (f WidthDiffers) (f KindDiffers) refl (f BadSize)
      fine_expr (flag p b) w f = expr_site F w (flag p b) refl (f WidthDiffers) (f KindDiffers) refl refl
      fine_expr (read p x) w f =
          let u = expr_suits (inside ls) (read p x) w f in
          let a = read_as g r ls x u.0 u.1 bs placed in
          let kinds = neither (kinds_differ (own (inside ls) (read p x)) w) (not (reads (role_of (inside ls) x))) (f KindDiffers) in
          let site = node_site w (read p x) (read p (source ds bs x)) a.kind (f WidthDiffers) kinds.0 in
          expr_site F w (read p (source ds bs x)) a.known site.0 (or_none (kinds_differ (own F (read p (source ds bs x))) w) (not (reads (role_of F (source ds bs x)))) site.1 (ap (λ b. not b) a.used)) (a.hop (f WrongBlock)) refl
      fine_expr (count p x) w f =
          let u = expr_suits (inside ls) (count p x) w f in
          let l = counted (inside ls) x u.0 u.1 in
          let y : List ℕ = count_name (list_number ds x) in
          let n = count_numbered g r x l (list_number ds x) (number_of ds x l) in
          let role = numbered_role g r y (ty.Bit 8) n in
          let kinds = neither (kinds_differ (Number 8) w) (not (counts (role_of (inside ls) x))) (f KindDiffers) in
          let site = node_site w (count p x) (read p y) (count_kind p y n) (f WidthDiffers) kinds.0 in
          expr_site F w (read p y) (ap is_missing role) site.0 (or_none (kinds_differ (own F (read p y)) w) (not (reads (role_of F y))) site.1 (ap (λ q. not (reads q)) role)) (ap (λ q. is_hop q && is_init g.block) role) refl
      fine_expr (index p x ks) w f =
          let u = expr_suits (inside ls) (index p x ks) w f in
          let role : role_of F x ≡ role_of (inside ls) x = index_role x ks u.0 u.1 in
          let kinds = neither (kinds_differ (own (inside ls) (index p x ks)) w) (not (indexed (role_of (inside ls) x) ks)) (f.0 KindDiffers) in
          let site = node_site w (index p x ks) (index p x (flat_exprs ds bs ks)) (ap index_kind role) (f.0 WidthDiffers) kinds.0 in
          let used : not (indexed (role_of F x) (flat_exprs ds bs ks)) ≡ false = ap (λ b. not b) (indexed_same (role_of F x) ks ∙ ap (λ c. indexed c ks) role) ∙ kinds.1 in (
            expr_site F w (index p x (flat_exprs ds bs ks)) (ap is_missing role ∙ f.0 NoSuchName) site.0 (or_none (kinds_differ (own F (index p x (flat_exprs ds bs ks))) w) (not (indexed (role_of F x) (flat_exprs ds bs ks))) site.1 used) refl refl,
            subst (λ ws. Fine (all_sites F ws (flat_exprs ds bs ks))) (ap index_wants (sym role)) (fine_exprs ks (index_wants (role_of (inside ls) x)) f.1),
          )
      fine_expr (member p ks x) w f =
          let u = expr_suits (inside ls) (member p ks x) w f in
          holder_fine p x ks w (holder (inside ls) x ks r.shapely u.0 u.1) u f.0 (λ ws e. subst (λ vs. Fine (all_sites F vs (flat_exprs ds bs ks))) (sym e) (fine_exprs ks (member_wants (role_of (inside ls) x)) f.1))
      fine_expr (negation p a) w f =
          let kinds = neither (kinds_differ Truth w) false (f.0 KindDiffers) in
          (expr_site F w (negation p (flat_expr ds bs a)) refl (f.0 WidthDiffers) (f.0 KindDiffers) refl refl, fine_expr a Truth f.1)
      fine_expr (inversion p a) w f =
          let o : own F (flat_expr ds bs a) ≡ own (inside ls) a = kind_same a (expr_suits (inside ls) a (as_number (join (own (inside ls) a) w)) f.1) in
          let kinds = neither (kinds_differ (own (inside ls) (inversion p a)) w) false (f.0 KindDiffers) in
          let site = node_site w (inversion p a) (inversion p (flat_expr ds bs a)) (ap as_number o) (f.0 WidthDiffers) kinds.0 in (
            expr_site F w (inversion p (flat_expr ds bs a)) refl site.0 (or_none (kinds_differ (own F (inversion p (flat_expr ds bs a))) w) false site.1 refl) refl refl,
            subst (λ q. Fine (expr_sites F (as_number (join q w)) (flat_expr ds bs a))) (sym o) (fine_expr a (as_number (join (own (inside ls) a) w)) f.1),
          )
      fine_expr (binary p op a b) w f =
          let oa : own F (flat_expr ds bs a) ≡ own (inside ls) a = kind_same a (expr_suits (inside ls) a (left_want op (own (inside ls) a) (own (inside ls) b) w) f.1.0) in
          let ob : own F (flat_expr ds bs b) ≡ own (inside ls) b = kind_same b (expr_suits (inside ls) b (right_want op (own (inside ls) a) (own (inside ls) b) w) f.1.1) in
          let e' : Expr = binary p op (flat_expr ds bs a) (flat_expr ds bs b) in
          let kinds = neither (kinds_differ (own (inside ls) (binary p op a b)) w) false (f.0 KindDiffers) in
          let site = node_site w (binary p op a b) e' (ap₂ (binary_kind op) oa ob) (f.0 WidthDiffers) kinds.0 in (
            expr_site F w e' refl site.0 (or_none (kinds_differ (own F e') w) false site.1 refl) refl refl,
            (
              subst (λ q. Fine (expr_sites F q (flat_expr ds bs a))) (ap₂ (λ c d. left_want op c d w) (sym oa) (sym ob)) (fine_expr a (left_want op (own (inside ls) a) (own (inside ls) b) w) f.1.0),
              subst (λ q. Fine (expr_sites F q (flat_expr ds bs b))) (ap₂ (λ c d. right_want op c d w) (sym oa) (sym ob)) (fine_expr b (right_want op (own (inside ls) a) (own (inside ls) b) w) f.1.1),
            ),
          )
      fine_expr (cast p v a) w f =
          let o : own F (flat_expr ds bs a) ≡ own (inside ls) a = kind_same a (expr_suits (inside ls) a (as_number (own (inside ls) a)) f.1) in (
            expr_site F w (cast p v (flat_expr ds bs a)) refl (f.0 WidthDiffers) (f.0 KindDiffers) refl (f.0 BadSize),
            subst (λ q. Fine (expr_sites F (as_number q) (flat_expr ds bs a))) (sym o) (fine_expr a (as_number (own (inside ls) a)) f.1),
          )

      pub fine_exprs : (es : Exprs) (ws : Wants) → Fine (all_sites (inside ls) ws es) → Fine (all_sites F ws (flat_exprs ds bs es))
      fine_exprs none ws f = tt
      fine_exprs (more e es) ws f =
          let o : own F (flat_expr ds bs e) ≡ own (inside ls) e = kind_same e (expr_suits (inside ls) e (head_want ws (own (inside ls) e)) f.0) in
          (subst (λ q. Fine (expr_sites F (head_want ws q) (flat_expr ds bs e))) (sym o) (fine_expr e (head_want ws (own (inside ls) e)) f.0), fine_exprs es (tail_wants ws) f.1)
