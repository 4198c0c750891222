-- The code of a block that breaks no rule of types breaks no rule of P4, in a scope that has the monitor's names.
use Rattle.std.proofs.Common.{◌≡◌, ◌⊎◌, inl, inr, codes, ℕ, suc, ◌+◌, ◌≤◌, List, [], ◌∷◌, ◌++◌, length, Bool, true, false, cond, not, ◌&&◌, ◌||◌, nat_eq, nat_lt, Option, Some, None, refl, sym, ap, ◌∙◌, subst, arith, append_assoc, append-nil}
use Rattle.std.proofs.lemmas.Bool.{ltb-false}
use Rattle.std.proofs.lemmas.Bool.Decides.{nat_tests}
use Rattle.std.proofs.lemmas.List.{length-append}
use Rattle.lex_text.specs.Names.{same_text, parent}
use Rattle.rule_tests.specs.Tests.{Tests, both, IsFine}
use Rattle.indus_tree.specs.Tree as indus
use Rattle.indus_tree.specs.Tree.{Expr, Exprs, num, flag, read as reads_it, count, index, member, negation, inversion, binary, cast, none, more, exprs_count, Shape, one, list, set, dict, Decl}
use Rattle.indus_tree.specs.State.{lookup, shape_width, width_of}
use Rattle.indus_tree.specs.declared.tree.DeclKind.{DeclKind}
use Rattle.indus_tree.specs.declared.tree.DeclKind.TheVariants.{Tele, Sensor, Header, Control}
use Rattle.indus_tree.specs.declared.tree.Ty.{Ty}
use Rattle.indus_tree.specs.declared.tree.Ty.TheVariants as ty
use Rattle.indus_scopes.specs.Kinds as from
use Rattle.indus_scopes.specs.Scopes.{Sight, own, role_of, role_from, scalar_kind, read_kind as kind_read, index_kind, element_kind}
use Rattle.indus_scopes.specs.Uses.{reads as role_reads, may_index, is_array, is_dict, writable, kind_writable}
use Rattle.indus_scopes.specs.declared.kind.Kind.{Kind}
use Rattle.indus_scopes.specs.declared.kind.Kind.TheVariants.{Number, Truth, Unknown}
use Rattle.indus_scopes.specs.declared.scope.Block.{Block}
use Rattle.indus_scopes.specs.declared.scope.Block.TheVariants as block
use Rattle.indus_rules.specs.Sites.{any_width, keys, index_wants, member_wants, shape_index_wants, shape_member_wants, expr_sites, all_sites, stmt_sites, block_sites}
use Rattle.indus_rules.specs.Rules.{Fine, is_init, is_check, misshapen}
use Rattle.indus_rules.specs.declared.rule.Rule.TheVariants.{KindDiffers, WidthDiffers, NotWritable, WrongBlock, BadSize}
use Rattle.indus_types.proofs.Widths.{twice_not, head_fine, kind_fine}
use Rattle.flat_laws.specs.Form.{IsFlatExpr, AreFlatExprs, IsFlatStmt, IsFlatBlock}
use Rattle.p4_tree.specs.Tree as p4
use Rattle.p4_tree.specs.Tree.{Stmt, Stmts, done, next, and_then}
use Rattle.p4_tree.specs.declared.statement.Op.TheVariants as p4o
use Rattle.p4_tree.specs.declared.statement.PTy.TheVariants as type
use Rattle.p4_meaning.specs.Scope.{Roots}
use Rattle.p4_scopes.specs.Kinds as to
use Rattle.p4_scopes.specs.Scopes.{Scope, held, cells, rows, function, value_kind}
use Rattle.p4_scopes.specs.Scopes as scope
use Rattle.p4_scopes.specs.Uses as uses
use Rattle.p4_scopes.specs.declared.kind.Kind as target
use Rattle.p4_scopes.specs.declared.kind.Kind.TheVariants as t
use Rattle.p4_scopes.specs.declared.thing.Thing.TheVariants.{Scalar}
use Rattle.p4_scopes.specs.declared.thing.Access.TheVariants.{Writable}
use Rattle.p4_scopes.specs.declared.thing.Function.TheVariants.{Digest}
use Rattle.p4_statement_rules.specs.Expressions as rules
use Rattle.p4_statement_rules.specs.Forms.{Form, plain_form, takes_call}
use Rattle.p4_statement_rules.specs.Calls.{target_tests, form_tests}
use Rattle.p4_statement_rules.specs.Statements.{stands_tests, if_tests, block_tests, else_tests}
use Rattle.p4_statement_rules.specs.declared.rule.Part.TheVariants as part
use Rattle.p4_statement_rules.specs.declared.rule.ProgramRule.{ProgramRule}
use Rattle.monitor_laws.specs.Names.{first_name, last_name, rejected_name}
use Rattle.monitor_laws.specs.Trees.{number}
use Rattle.lookup_names.specs.Names as plain
use Rattle.lookup_names.specs.Names.{found_name, key_name}
use Rattle.lookup_names.specs.Keys.{key_types, variable}
use Rattle.lowered_code.specs.Names.{sensor_name}
use Rattle.lowered_code.specs.Environment.{Environment, in_control, tele_path, rooted_path, switch_name}
use Rattle.lowered_code.specs.Expressions.{value_type, of_bits, to_bits, read_decl, is_in, place_in, as_index, lowered, lowered_all, name_for, name_by_kind, found_for}
use Rattle.lowered_code.specs.Reads.{cleared, start_of, turned, turn, take_sensor, keys_of, apply, keyed, read_array, read_sensor, read_kind, read_stmts, reads_stmts}
use Rattle.lowered_code.specs.Statements.{put_sensor, set_kind, set_name, set_array, tell, maybe_else, stmt_reads, behind, stmt_end, block_end, with_reads, stmt_code, block_code, kept_types, numbered_reads, stmt_numbers, block_numbers}
use Rattle.lowered_code.proofs.Lists.{place_more, place_last, is_last}
use Rattle.lowered_code.proofs.Values.{Covers, AllCovered}
use Rattle.lowered_code.proofs.Widths.{value_width}
use Rattle.whole_properties.proofs.Declarations.{AreShapely, clash}
use Rattle.monitor_trees.proofs.Turns.{IsNext, InTurn, expr_covers, exprs_covered, index_covers, value_covers, stmt_turn}
use Rattle.monitor_rules.proofs.KindMaps.{K}
use Rattle.monitor_rules.proofs.ExprRules.{Rights, own_same, own_known, fine_same, bit_right}
use Rattle.monitor_rules.proofs.FreeRules.{AllRight, all_free_fine, index_fine}
use Rattle.monitor_rules.proofs.IndexRules.{index_typed}
use Rattle.monitor_rules.proofs.FormRules.{place, IsWidth, Typed, Fits, variable_typed, number_typed, join_self, self_widths, assign_fits, apply_fits, read_fits, write_fits, join_fits}
use Rattle.monitor_rules.proofs.LeafRules.{IsOne, one_is, IsIndexed, IsHolding, index_use, member_use, IsRead, Offers, AllFound, at_variable, all_right, each_right, wides}
use Rattle.monitor_rules.proofs.Quiet.{reads_quiet, stmt_quiet, one_quiet}

truth_only : (k : Kind) → (k ≡ Unknown → ⊥) → from.kinds_differ k Truth ≡ false → k ≡ Truth
truth_only (Number w) n h = absurd (let c : true ≡ false = h in cc)
truth_only Truth n h = refl
truth_only Unknown n h = absurd (n refl)

turned_clash : {A : Type 0} → false ≡ true → A
turned_clash e = absurd (cc e)

-- a number of no width, or of one
abbrev IsWide : ℕ → target.Kind → Type 0
IsWide w k = (k ≡ t.Number 0) ⊎ (k ≡ t.Number w)

all_false : (x y z : Bool) → x ≡ false → y ≡ false → z ≡ false → (not x && not y && not z) ≡ false → ⊥
all_false false false false p q r h = cc h
all_false true y z p q r h = cc p
all_false false true z p q r h = cc q
all_false false false true p q r h = cc r

number_wide : (w : ℕ) (k : Kind) → nat_eq w 0 ≡ false → (k ≡ Unknown → ⊥) → from.widths_differ k (Number w) ≡ false → from.kinds_differ k (Number w) ≡ false → IsWide w (K k)
number_wide w (Number v) some n a b = go (nat_eq v 0) (nat_eq v w) refl refl
  where
    go : (x y : Bool) → nat_eq v 0 ≡ x → nat_eq v w ≡ y → IsWide w (t.Number v)
    go true y e f = inl (ap t.Number (let z : v ≡ 0 = grind (arith, nat_tests, e) in z))
    go false true e f = inr (ap t.Number (let z : v ≡ w = grind (arith, nat_tests, f) in z))
    go false false e f = absurd (all_false (nat_eq v 0) (nat_eq w 0) (nat_eq v w) e some f a)
number_wide w Truth some n a b = absurd (let c : true ≡ false = b in cc)
number_wide w Unknown some n a b = absurd (n refl)

module _ (sc : Scope) where
  -- a value xor the initial one
  turned_typed : (start w : ℕ) (e : p4.Expr) → IsWidth w → IsWide w (scope.own sc e) → Typed sc w e → Typed sc w (turned start w e)
  turned_typed start w e i k h = go (nat_eq start 0)
    where
      join_is : to.join (scope.own sc e) (t.Number w) ≡ t.Number w
      join_is = case k
        where
          case : IsWide w (scope.own sc e) → to.join (scope.own sc e) (t.Number w) ≡ t.Number w
          case (inl z) = ap (λ q. to.join q (t.Number w)) z
          case (inr z) = ap (λ q. to.join q (t.Number w)) z ∙ join_self sc w (t.Number w) i

      number_is : to.as_number (scope.own sc e) ≡ scope.own sc e
      number_is = case k
        where
          case : IsWide w (scope.own sc e) → to.as_number (scope.own sc e) ≡ scope.own sc e
          case (inl z) = ap to.as_number z ∙ sym z
          case (inr z) = ap to.as_number z ∙ sym z

      own_is : to.as_number (to.join (scope.own sc e) (t.Number w)) ≡ t.Number w
      own_is = ap to.as_number join_is

      want_is : to.like_want (scope.own sc e) (t.Number w) (t.Number w) ≡ t.Number w
      want_is =
          ap (λ q. to.as_number (to.join (to.join q (t.Number w)) (t.Number w))) number_is
          ∙ ap (λ q. to.as_number (to.join q (t.Number w))) join_is ∙ ap to.as_number (join_self sc w (t.Number w) i)

      go : (b : Bool) → Typed sc w (cond b e (p4.binary 0 p4o.BitXor e (number w start)))
      go true = h
      go false = (
        (ap (λ q. to.widths_differ q (t.Number w)) own_is ∙ self_widths w, ap (λ q. to.kinds_differ q (t.Number w)) own_is),
        (tt, (subst (λ q. IsFine (rules.expr_tests sc q e)) (sym want_is) h, subst (λ q. IsFine (rules.expr_tests sc q (number w start))) (sym want_is) (number_typed sc w start i))),
      )

  -- a variable of that width
  own_place : (x : List ℕ) (w : ℕ) → sc (x ∷ []) ≡ place w → IsWide w (scope.own sc (variable x))
  own_place x w e = inr (ap value_kind e)

  key_index : (x : List ℕ) → sc (x ∷ []) ≡ place 128 → IsFine (rules.index_tests sc (variable x))
  key_index x e = subst (λ q. IsFine (rules.expr_tests sc q (variable x))) (sym (ap (λ st. to.index_want (value_kind st)) e)) (variable_typed sc (x ∷ []) 128 e)

  wide_enough : IsWidth 128
  wide_enough = record { some = refl; few = refl }

  guard_typed : (x : List ℕ) (size : ℕ) → sc (x ∷ []) ≡ place 128 → IsFine (rules.expr_tests sc t.Truth (p4.binary 0 p4o.Less (variable x) (number 128 size)))
  guard_typed x size e =
      let k = ap value_kind e in
      let want : to.as_number (to.join (value_kind (sc (x ∷ []))) (t.Number 128)) ≡ t.Number 128 = ap (λ q. to.as_number (to.join q (t.Number 128))) k in (
        (refl, refl),
        (
          ap (λ q. (rules.ill_compared q (variable x) (number 128 size)) || false) k,
          (subst (λ q. IsFine (rules.expr_tests sc q (variable x))) (sym want) (variable_typed sc (x ∷ []) 128 e), subst (λ q. IsFine (rules.expr_tests sc q (number 128 size))) (sym want) (number_typed sc 128 size wide_enough)),
        ),
      )

  turn_typed : (n w start : ℕ) → IsWidth w → sc (found_name n ∷ []) ≡ place w → IsFine (block_tests part.Apply sc (turn n w start))
  turn_typed n w start i e = go (nat_eq start 0)
    where
      go : (b : Bool) → IsFine (block_tests part.Apply sc (cond b done (next (p4.assign 0 (found_name n ∷ []) (turned start w (variable (found_name n)))) done)))
      go true = tt
      go false = (assign_fits sc (found_name n ∷ []) w (turned start w (variable (found_name n))) e (turned_typed start w (variable (found_name n)) i (own_place (found_name n) w e) (variable_typed sc (found_name n ∷ []) w e)), tt)

  sensor_taken : (n : ℕ) (d : Decl) (i : p4.Expr) → IsWidth (shape_width d.shape) → sc (found_name n ∷ []) ≡ place (shape_width d.shape) → sc (sensor_name d.name ∷ []) ≡ cells (t.Number (shape_width d.shape)) → IsFine (rules.index_tests sc i) → IsFine (block_tests part.Apply sc (take_sensor n d i))
  sensor_taken n d i w e q h = (read_fits sc (sensor_name d.name) (found_name n ∷ []) (shape_width d.shape) i q e h, turn_typed n (shape_width d.shape) (start_of d) w e)

  -- a report of at most eight values is told
  tell_typed : (m : ℕ) (es : List p4.Expr) → sc (codes "digest" ∷ []) ≡ function Digest → length es ≤ 8 → IsFine (rules.all_free sc es) → Fits sc (tell m es)
  tell_typed m es e short h =
      subst (λ (f : Form). IsFine (call_tests f)) (sym (ap plain_form e)) (refl, (refl, (few (length es) short, (((refl, refl), (refl, refl)), h))))
    where
      few : (k : ℕ) → k ≤ 8 → (nat_eq (suc k) 0 || nat_lt 9 (suc k)) ≡ false
      few k le = grind (arith, nat_tests, le)

      call_tests : Form → Tests ProgramRule
      call_tests f = both (stands_tests 0 (takes_call part.Apply f)) (form_tests 0 sc f (p4.one 0 (number 32 1213809746) ∷ p4.many 0 (number 16 m ∷ es) ∷ []))

-- the scope has the monitor's names
module _ (exits : Bool) (r : Roots) (sc : Scope) (st : Sight) (flat : st.loops ≡ []) (hops : exits ≡ false → is_init st.block ≡ true) (well : AreShapely st.decls) where
  abbrev A : Environment
  A = in_control r

  abbrev ds : List Decl
  ds = st.decls

  abbrev pub AreKeys : (n i : ℕ) → List Ty → Type 0
  AreKeys n i [] = Unit {0}
  AreKeys n i (t ∷ ts) = (sc (key_name n i ∷ []) ≡ place (width_of t)) × AreKeys n (suc i) ts

  -- what a read of a number declares
  pub record IsThere (n : ℕ) (d : Decl) : Type 0 where
    pub found : sc (found_name n ∷ []) ≡ place (shape_width d.shape)
    pub keys : AreKeys n 0 (kept_types d.kind d.shape)
    pub rows : d.kind ≡ Control → (m : ℕ) × (sc (plain.table_name n ∷ []) ≡ rows m)

  abbrev pub MayBeThere : ℕ × Option Decl → Type 0
  MayBeThere (n, None) = Unit {0}
  MayBeThere (n, Some d) = IsThere n d

  abbrev pub AreThere : List (ℕ × Option Decl) → Type 0
  AreThere [] = Unit {0}
  AreThere (x ∷ xs) = MayBeThere x × AreThere xs

  pub record Scene : Type 0 where
    pub offers : Offers exits r sc st flat hops well
    pub places : (x : List ℕ) (c : Decl) → lookup ds x ≡ Some c → c.kind ≡ Tele → sc (tele_path A x) ≡ place (shape_width c.shape)
    pub sensors : (x : List ℕ) (c : Decl) → lookup ds x ≡ Some c → c.kind ≡ Sensor → sc (sensor_name x ∷ []) ≡ cells (t.Number (shape_width c.shape))
    pub digest : sc (codes "digest" ∷ []) ≡ function Digest
    pub rejected : exits ≡ true → sc (rejected_name ∷ []) ≡ held Writable (Scalar t.Truth)
    pub widths : (x : List ℕ) (c : Decl) → lookup ds x ≡ Some c → IsWidth (shape_width c.shape)
    pub named : (x : List ℕ) (c : Decl) → lookup ds x ≡ Some c → c.name ≡ x

  module _ (s : Scene) where
    -- a place of a width is read
    place_read : (p : List (List ℕ)) (v w : ℕ) → sc p ≡ place v → v ≡ w → IsRead sc p (t.Number w)
    place_read p v w e i = record { there = ap scope.is_missing e; read = ap uses.reads e; kind = ap value_kind e ∙ ap t.Number i }

    -- a value of a type, as bits
    module _ (base : ℕ) (l : List Expr) where
      bits_typed : (ty : Ty) (e : Expr) → Rights A ds base l sc st e → Fine (expr_sites st (from.kind_of ty) e) → Typed sc (width_of ty) (to_bits ty (lowered A ds base l e))
      bits_typed (ty.Bit w) e r f = fine_same A ds base l sc st e (Number w) r f
      bits_typed ty.Bool e r f =
          let k : scope.own sc (lowered A ds base l e) ≡ t.Truth = own_same A ds base l sc st e r ∙ ap K (truth_only (own st e) (own_known A ds base l sc st e r) (kind_fine st Truth e f)) in
          (bit_right A ds base l sc st e r).fine k (fine_same A ds base l sc st e Truth r f)

      bits_wide : (ty : Ty) (e : Expr) → IsWidth (width_of ty) → Rights A ds base l sc st e → Fine (expr_sites st (from.kind_of ty) e) → IsWide (width_of ty) (scope.own sc (to_bits ty (lowered A ds base l e)))
      bits_wide (ty.Bit w) e i r f =
          subst (IsWide w) (sym (own_same A ds base l sc st e r)) (number_wide w (own st e) i.some (own_known A ds base l sc st e r) (head_fine st (Number w) e f WidthDiffers) (kind_fine st (Number w) e f))
      bits_wide ty.Bool e i r f = inr (bit_right A ds base l sc st e r).own

      keyed_typed : (n i : ℕ) (ts : List Ty) (ks : Exprs) (rest : Stmts) → AreKeys n i ts → AllRight A ds base l sc st ks → Fine (all_sites st (keys ts) ks) → IsFine (block_tests part.Apply sc rest) → IsFine (block_tests part.Apply sc (keyed A ds base l n i ts ks rest))
      keyed_typed n i [] ks rest a r f h = h
      keyed_typed n i (t ∷ ts) none rest a r f h = h
      keyed_typed n i (t ∷ ts) (more e es) rest a r f h = (
        assign_fits sc (key_name n i ∷ []) (width_of t) (to_bits t (lowered A ds base l e)) a.0 (bits_typed t e r.0 f.0),
        keyed_typed n (suc i) ts es rest a.1 r.1 f.1 h,
      )

      ready_typed : (n : ℕ) (h : Shape) (rest : Stmts) → IsWidth (shape_width h) → sc (found_name n ∷ []) ≡ place (shape_width h) → IsFine (block_tests part.Apply sc rest) → IsFine (block_tests part.Apply sc (and_then (cleared n h) rest))
      ready_typed n (one ty) rest i e k = k
      ready_typed n (list ty size) rest i e k = k
      ready_typed n (set ts) rest i e k = (assign_fits sc (found_name n ∷ []) 1 (number 1 0) e (number_typed sc 1 0 i), k)
      ready_typed n (dict ts ty) rest i e k = (assign_fits sc (found_name n ∷ []) (width_of ty) (number (width_of ty) 0) e (number_typed sc (width_of ty) 0 i), k)

      -- a control variable is looked up
      control_typed : (n m : ℕ) (d : Decl) (ks : Exprs) → IsWidth (shape_width d.shape) → sc (found_name n ∷ []) ≡ place (shape_width d.shape) → sc (plain.table_name n ∷ []) ≡ rows m → AreKeys n 0 (key_types d.shape) →
          AllRight A ds base l sc st ks → Fine (all_sites st (keys (key_types d.shape)) ks) → IsFine (block_tests part.Apply sc (read_kind A ds base Control l n d ks))
      control_typed n m d ks i e q a r f =
          ready_typed n d.shape (keyed A ds base l n 0 (key_types d.shape) ks (next (apply A ds base n) done)) i e
          (keyed_typed n 0 (key_types d.shape) ks (next (apply A ds base n) done) a r f (apply_fits sc (plain.table_name n) m q, tt))

      module _ (found : AllFound exits r sc st flat hops well base l) where
        rights : (e : Expr) (w : Kind) → Fine (expr_sites st w e) → IsFlatExpr ds e → Covers ds l e → Rights A ds base l sc st e
        rights e w f i c = all_right exits r sc st flat hops well s.offers base l found e w f i c

        -- an array's cell
        array_typed : (n : ℕ) (d : Decl) (size : ℕ) (ks : Exprs) → IsWidth (shape_width d.shape) → sc (found_name n ∷ []) ≡ place (shape_width d.shape) → AreKeys n 0 (ty.Bit 128 ∷ []) → sc (sensor_name d.name ∷ []) ≡ cells (t.Number (shape_width d.shape)) →
            Fine (all_sites st any_width ks) → AreFlatExprs ds ks → AllCovered ds l ks → IsFine (block_tests part.Apply sc (read_array A ds base l n d size ks))
        array_typed n d size none i e k q f j c = tt
        array_typed n d size (more a es) i e k q f j c = (
          assign_fits sc (found_name n ∷ []) (shape_width d.shape) (number (shape_width d.shape) 0) e (number_typed sc (shape_width d.shape) 0 i),
          (
            assign_fits sc (key_name n 0 ∷ []) 128 (as_index a (lowered A ds base l a)) k.0 (index_typed A ds base l sc st a (wides st flat well a _ f.0 j.0) (rights a _ f.0 j.0 c.0) f.0),
            ((refl, (guard_typed sc (key_name n 0) size k.0, ((refl, sensor_taken sc n d (variable (key_name n 0)) i e q (key_index sc (key_name n 0) k.0)), tt))), tt),
          ),
        )

        -- a sensor
        shape_typed : (n : ℕ) (d : Decl) (h : Shape) (ks : Exprs) → IsWidth (shape_width d.shape) → sc (found_name n ∷ []) ≡ place (shape_width d.shape) → AreKeys n 0 (kept_types Sensor h) → sc (sensor_name d.name ∷ []) ≡ cells (t.Number (shape_width d.shape)) →
            Fine (all_sites st (shape_index_wants h) ks) → AreFlatExprs ds ks → AllCovered ds l ks → IsFine (block_tests part.Apply sc (read_sensor A ds base l n d h ks))
        shape_typed n d (one ty) ks i e k q f j c = sensor_taken sc n d (number 1 0) i e q ((refl, refl), (refl, refl))
        shape_typed n d (list ty size) ks i e k q f j c = array_typed n d size ks i e k q f j c
        shape_typed n d (set ts) ks i e k q f j c = tt
        shape_typed n d (dict ts ty) ks i e k q f j c = tt

        sensor_at : (x : List ℕ) (c : Decl) → lookup ds x ≡ Some c → c.kind ≡ Sensor → sc (sensor_name c.name ∷ []) ≡ cells (t.Number (shape_width c.shape))
        sensor_at x c is k = ap (λ y. sc (sensor_name y ∷ [])) (s.named x c is) ∙ s.sensors x c is k

        -- a scalar that is read
        name_typed : (n p : ℕ) (x : List ℕ) (w : Kind) (o : Option Decl) → lookup ds x ≡ o → Fine (expr_sites st w (reads_it p x)) → MayBeThere (n, o) → IsFine (block_tests part.Apply sc (read_stmts A ds base o l n none))
        name_typed n p x w None is f h = tt
        name_typed n p x w (Some c) is f h = go c.kind refl
          where
            go : (k : DeclKind) → c.kind ≡ k → IsFine (block_tests part.Apply sc (read_kind A ds base k l n c none))
            go Tele k = tt
            go Sensor k = shape_typed n c c.shape none (s.widths x c is) h.found (subst (λ k. AreKeys n 0 (kept_types k c.shape)) k h.keys) (sensor_at x c is k) tt tt tt
            go Header k = tt
            go Control k = (let m = h.rows k in control_typed n m.0 c none (s.widths x c is) h.found m.1 (subst (λ k. AreKeys n 0 (kept_types k c.shape)) k h.keys) tt tt)

        index_read : (n p : ℕ) (x : List ℕ) (ks : Exprs) (w : Kind) (o : Option Decl) → lookup ds x ≡ o → Fine (expr_sites st w (index p x ks)) → AreFlatExprs ds ks → AllCovered ds l ks → MayBeThere (n, o) → IsFine (block_tests part.Apply sc (read_stmts A ds base o l n ks))
        index_read n p x ks w None is f j c h = tt
        index_read n p x ks w (Some d) is f j c h = go d.kind refl
          where
            wanted : Fine (all_sites st (shape_index_wants d.shape) ks)
            wanted = subst (λ q. Fine (all_sites st (index_wants q) ks)) (at_variable exits r sc st flat hops well x d is) f.1

            as_keys : (h : Shape) → IsIndexed Control h → Fine (all_sites st (shape_index_wants h) ks) → Fine (all_sites st (keys (key_types h)) ks)
            as_keys (dict ts ty) g f = f
            as_keys (one ty) g f = absurd g
            as_keys (list ty m) g f = absurd g
            as_keys (set ts) g f = absurd g

            go : (k : DeclKind) → d.kind ≡ k → IsFine (block_tests part.Apply sc (read_kind A ds base k l n d ks))
            go Tele k = tt
            go Sensor k = shape_typed n d d.shape ks (s.widths x d is) h.found (subst (λ k. AreKeys n 0 (kept_types k d.shape)) k h.keys) (sensor_at x d is k) wanted j c
            go Header k = tt
            go Control k =
                (let m = h.rows k in
                control_typed n m.0 d ks (s.widths x d is) h.found m.1 (subst (λ k. AreKeys n 0 (kept_types k d.shape)) k h.keys)
                (each_right exits r sc st flat hops well s.offers base l found ks _ f.1 j c) (as_keys d.shape (subst (λ k. IsIndexed k d.shape) k (index_use st flat well p x ks w d is f)) wanted))

        member_read : (n p : ℕ) (ks : Exprs) (x : List ℕ) (w : Kind) (o : Option Decl) → lookup ds x ≡ o → Fine (expr_sites st w (member p ks x)) → IsFlatExpr ds (member p ks x) → AllCovered ds l ks → MayBeThere (n, o) → IsFine (block_tests part.Apply sc (read_stmts A ds base o l n ks))
        member_read n p ks x w None is f j c h = tt
        member_read n p ks x w (Some d) is f j c h = go d.kind refl
          where
            wanted : Fine (all_sites st (shape_member_wants d.shape) ks)
            wanted = subst (λ q. Fine (all_sites st (member_wants q) ks)) (at_variable exits r sc st flat hops well x d is) f.1

            used : IsHolding d.kind d.shape
            used = member_use st flat well p ks x w d is f j.0

            as_keys : (h : Shape) → IsHolding Control h → Fine (all_sites st (shape_member_wants h) ks) → Fine (all_sites st (keys (key_types h)) ks)
            as_keys (set ts) g f = f
            as_keys (one ty) g f = absurd g
            as_keys (list ty m) g f = absurd g
            as_keys (dict ts ty) g f = absurd g

            none_held : (h : Shape) → IsHolding Sensor h → ⊥
            none_held (one ty) g = g
            none_held (list ty m) g = g
            none_held (set ts) g = g
            none_held (dict ts ty) g = g

            go : (k : DeclKind) → d.kind ≡ k → IsFine (block_tests part.Apply sc (read_kind A ds base k l n d ks))
            go Tele k = tt
            go Sensor k = absurd (none_held d.shape (subst (λ k. IsHolding k d.shape) k used))
            go Header k = tt
            go Control k =
                (let m = h.rows k in
                control_typed n m.0 d ks (s.widths x d is) h.found m.1 (subst (λ k. AreKeys n 0 (kept_types k d.shape)) k h.keys)
                (each_right exits r sc st flat hops well s.offers base l found ks _ f.1 j.1 c) (as_keys d.shape (subst (λ k. IsHolding k d.shape) k used) wanted))

        one_typed : (n : ℕ) (e : Expr) → IsNext st l e → MayBeThere (n, read_decl ds e) → IsFine (block_tests part.Apply sc (read_stmts A ds base (read_decl ds e) l n (keys_of e)))
        one_typed n (reads_it p x) i h = name_typed n p x i.here.want (lookup ds x) refl i.here.fine h
        one_typed n (index p x ks) i h = index_read n p x ks i.here.want (lookup ds x) refl i.here.fine i.here.flat i.covered h
        one_typed n (member p ks x) i h = member_read n p ks x i.here.want (lookup ds x) refl i.here.fine i.here.flat i.covered h
        one_typed n (num p m) i h = tt
        one_typed n (flag p b) i h = tt
        one_typed n (count p x) i h = tt
        one_typed n (negation p a) i h = tt
        one_typed n (inversion p a) i h = tt
        one_typed n (binary p o a b) i h = tt
        one_typed n (cast p v a) i h = tt

    -- behind one more read, it stands in its variable too
    one_more : (base : ℕ) (l : List Expr) (n : ℕ) (e : Expr) → n ≡ base + length l → is_in l e ≡ false → MayBeThere (n, read_decl ds e) → AllFound exits r sc st flat hops well base l → AllFound exits r sc st flat hops well base (l ++ e ∷ [])
    one_more base l n e at new h found g c is i = go (is_in l g) refl
      where
        here : (o : Option Decl) → MayBeThere (n, o) → o ≡ Some c → IsRead sc (found_name n ∷ []) (t.Number (width_of (value_type c.shape)))
        here None m k = absurd (cc k)
        here (Some d) m k = (let same : d ≡ c = cc k in place_read (found_name n ∷ []) (shape_width d.shape) (width_of (value_type c.shape)) m.found (ap (λ (d : Decl). shape_width d.shape) same ∙ sym (value_width c.shape)))

        go : (b : Bool) → is_in l g ≡ b → IsRead sc (found_name (base + place_in (l ++ e ∷ []) g) ∷ []) (t.Number (width_of (value_type c.shape)))
        go true old = subst (λ k. IsRead sc (found_name (base + k) ∷ []) (t.Number (width_of (value_type c.shape)))) (sym (place_more l (e ∷ []) g old)) (found g c is old)
        go false old =
            let same = is_last l e g i old in
            subst (λ k. IsRead sc (found_name k ∷ []) (t.Number (width_of (value_type c.shape))))
            (at ∙ ap (λ k. base + k) (sym (place_last l e new)) ∙ ap (λ g. base + place_in (l ++ e ∷ []) g) same)
            (here (read_decl ds e) h (ap (read_decl ds) same ∙ is))

    reads_typed : (base : ℕ) (l es : List Expr) (n : ℕ) → InTurn st l es → n ≡ base + length l → AllFound exits r sc st flat hops well base l → AreThere (numbered_reads ds n es)
        → IsFine (block_tests part.Apply sc (reads_stmts A ds base l n es)) × AllFound exits r sc st flat hops well base (l ++ es)
    reads_typed base l [] n turn at found h = (tt, subst (AllFound exits r sc st flat hops well base) (sym (append-nil l)) found)
    reads_typed base l (e ∷ es) n turn at found h =
        let first_read = read_stmts A ds base (read_decl ds e) l n (keys_of e) in
        let rest = reads_stmts A ds base (l ++ e ∷ []) (suc n) es in
        let behind : suc n ≡ base + length (l ++ e ∷ []) = (let long = length-append l (e ∷ []) in omega (arith, at, long)) in
        let later = reads_typed base (l ++ e ∷ []) es (suc n) turn.1 behind (one_more base l n e at turn.0.new h.0 found) h.1 in (
          join_fits first_read rest sc (one_typed base l found n e turn.0 h.0) (subst (λ z. IsFine (block_tests part.Apply z rest)) (sym ((one_quiet A ds base (read_decl ds e) l n (keys_of e)).stays sc)) later.0),
          subst (AllFound exits r sc st flat hops well base) (append_assoc l (e ∷ []) es) later.1,
        )

    -- ---- statements

    none_found : (base : ℕ) → AllFound exits r sc st flat hops well base []
    none_found base e c is i = absurd (cc i)

    with_typed : (n : ℕ) (c : indus.Stmt) (f : List Expr → Stmts) → Fine (stmt_sites st c) → IsFlatStmt ds c → AreThere (numbered_reads ds n (stmt_reads ds c)) → (AllFound exits r sc st flat hops well n (stmt_reads ds c) → IsFine (block_tests part.Apply sc (f (stmt_reads ds c)))) → IsFine (block_tests part.Apply sc (with_reads A ds n c f))
    with_typed n c f fine fl there h =
        let l = stmt_reads ds c in
        let at : n ≡ n + 0 = omega arith in
        let got = reads_typed n [] l n (stmt_turn st c fine fl) at (none_found n) there in
        join_fits (reads_stmts A ds n [] n l) (f l) sc got.0 (subst (λ z. IsFine (block_tests part.Apply z (f l))) (sym ((reads_quiet A ds n [] n l).stays sc)) (h got.1))

    scalar_is : (h : Shape) → IsOne h → scalar_kind h ≡ from.kind_of (value_type h)
    scalar_is (one ty) i = refl
    scalar_is (list ty n) i = absurd i
    scalar_is (set ks) i = absurd i
    scalar_is (dict ks ty) i = absurd i

    -- a cell of a sensor is given a value
    put_typed : (base : ℕ) (l : List Expr) (x : List ℕ) (c : Decl) (i : p4.Expr) (e : Expr) → lookup ds x ≡ Some c → c.kind ≡ Sensor → IsFine (rules.index_tests sc i) → Rights A ds base l sc st e → Fine (expr_sites st (from.kind_of (value_type c.shape)) e) → IsFine (block_tests part.Apply sc (put_sensor c i (lowered A ds base l e)))
    put_typed base l x c i e is k h g f =
        let v = to_bits (value_type c.shape) (lowered A ds base l e) in (
          write_fits sc (sensor_name c.name) (shape_width c.shape) i (turned (start_of c) (shape_width c.shape) v) (ap (λ y. sc (sensor_name y ∷ [])) (s.named x c is) ∙ s.sensors x c is k) h
              (turned_typed sc (start_of c) (shape_width c.shape) v (s.widths x c is) (subst (λ w. IsWide w (scope.own sc v)) (value_width c.shape) (bits_wide base l (value_type c.shape) e (subst IsWidth (sym (value_width c.shape)) (s.widths x c is)) g f)) (subst (λ w. Typed sc w v) (value_width c.shape) (bits_typed base l (value_type c.shape) e g f))),
          tt,
        )

    set_typed : (base : ℕ) (l : List Expr) (p : ℕ) (x : List ℕ) (e : Expr) (o : Option Decl) → lookup ds x ≡ o → Fine (stmt_sites st (indus.assign p x e)) → Rights A ds base l sc st e → IsFine (block_tests part.Apply sc (set_name A o x (lowered A ds base l e)))
    set_typed base l p x e None is f g = tt
    set_typed base l p x e (Some c) is f g = go c.kind refl
      where
        role : role_of st x ≡ role_from None None (Some c)
        role = at_variable exits r sc st flat hops well x c is

        scalar : IsOne c.shape
        scalar = one_is c.shape (ap role_reads (sym role) ∙ twice_not (role_reads (role_of st x)) (f.0 KindDiffers))

        value : Fine (expr_sites st (from.kind_of (value_type c.shape)) e)
        value = subst (λ k. Fine (expr_sites st k e)) (ap kind_read role ∙ scalar_is c.shape scalar) f.1

        go : (k : DeclKind) → c.kind ≡ k → IsFine (block_tests part.Apply sc (set_kind A k c x (lowered A ds base l e)))
        go Tele k = (assign_fits sc (tele_path A x) (shape_width c.shape) (to_bits (value_type c.shape) (lowered A ds base l e)) (s.places x c is k) (subst (λ w. Typed sc w (to_bits (value_type c.shape) (lowered A ds base l e))) (value_width c.shape) (bits_typed base l (value_type c.shape) e g value)), tt)
        go Sensor k = put_typed base l x c (number 1 0) e is k ((refl, refl), (refl, refl)) g value
        go Header k = tt
        go Control k = tt

    abbrev IsArray : DeclKind → Shape → Type 0
    IsArray Sensor (list ty n) = Unit {0}
    IsArray _ _ = ⊥

    array_is : (k : DeclKind) (h : Shape) → misshapen k h ≡ false → kind_writable k ≡ true → (is_array k h || is_dict h) ≡ true → IsArray k h
    array_is Sensor (list ty n) m w q = tt
    array_is Tele (list ty n) m w q = turned_clash q
    array_is Header (list ty n) m w q = turned_clash q
    array_is Control (list ty n) m w q = turned_clash q
    array_is Tele (dict ts ty) m w q = clash m
    array_is Sensor (dict ts ty) m w q = clash m
    array_is Header (dict ts ty) m w q = clash m
    array_is Control (dict ts ty) m w q = turned_clash w
    array_is Tele (one ty) m w q = turned_clash q
    array_is Sensor (one ty) m w q = turned_clash q
    array_is Header (one ty) m w q = turned_clash q
    array_is Control (one ty) m w q = turned_clash q
    array_is Tele (set ts) m w q = turned_clash q
    array_is Sensor (set ts) m w q = turned_clash q
    array_is Header (set ts) m w q = turned_clash q
    array_is Control (set ts) m w q = turned_clash q

    kind_is : (k : DeclKind) (h : Shape) → IsArray k h → k ≡ Sensor
    kind_is Sensor (list ty n) g = refl
    kind_is _ _ g = absurd g

    cell_kind : (k : DeclKind) (h : Shape) → IsArray k h → element_kind k h ≡ from.kind_of (value_type h)
    cell_kind Sensor (list ty n) g = refl
    cell_kind _ _ g = absurd g

    cell_typed : (base : ℕ) (l : List Expr) (p : ℕ) (x : List ℕ) (a e : Expr) (o : Option Decl) → lookup ds x ≡ o → Fine (stmt_sites st (indus.cell p x a e)) → Rights A ds base l sc st a → Rights A ds base l sc st e → IsFine (block_tests part.Apply sc (set_array o (lowered A ds base l a) (lowered A ds base l e)))
    cell_typed base l p x a e None is f g h = tt
    cell_typed base l p x a e (Some c) is f g h =
        let role = at_variable exits r sc st flat hops well x c is in
        let array = array_is c.kind c.shape (well.shaped x c is) (ap writable (sym role) ∙ twice_not (writable (role_of st x)) (f.0 NotWritable)) (ap may_index (sym role) ∙ twice_not (may_index (role_of st x)) (f.0 KindDiffers)) in
        put_typed base l x c (lowered A ds base l a) e is (kind_is c.kind c.shape array) (index_fine A ds base l sc st a g f.1.0) h
        (subst (λ k. Fine (expr_sites st k e)) (ap index_kind role ∙ cell_kind c.kind c.shape array) f.1.1)

    -- ---- tests

    abbrev IsPlain : p4.Expr → Type 0
    IsPlain (p4.applied p t b) = ⊥
    IsPlain (p4.negation p (p4.applied q t b)) = ⊥
    IsPlain _ = Unit {0}

    if_typed : (e : p4.Expr) → IsPlain e → IsFine (rules.expr_tests sc t.Truth e) → IsFine (if_tests part.Apply sc e)
    if_typed (p4.applied p x b) i h = absurd i
    if_typed (p4.negation p (p4.applied q x b)) i h = absurd i
    if_typed (p4.negation p (p4.num q n)) i h = h
    if_typed (p4.negation p (p4.flag q b)) i h = h
    if_typed (p4.negation p (p4.path q x)) i h = h
    if_typed (p4.negation p (p4.valid q x)) i h = h
    if_typed (p4.negation p (p4.error_name q x)) i h = h
    if_typed (p4.negation p (p4.negation q a)) i h = h
    if_typed (p4.negation p (p4.inversion q a)) i h = h
    if_typed (p4.negation p (p4.opposite q a)) i h = h
    if_typed (p4.negation p (p4.binary q o a b)) i h = h
    if_typed (p4.negation p (p4.conditional q x a b)) i h = h
    if_typed (p4.negation p (p4.slice q a m k)) i h = h
    if_typed (p4.negation p (p4.cast q ty a)) i h = h
    if_typed (p4.num p n) i h = h
    if_typed (p4.flag p b) i h = h
    if_typed (p4.path p x) i h = h
    if_typed (p4.valid p x) i h = h
    if_typed (p4.error_name p x) i h = h
    if_typed (p4.inversion p a) i h = h
    if_typed (p4.opposite p a) i h = h
    if_typed (p4.binary p o a b) i h = h
    if_typed (p4.conditional p x a b) i h = h
    if_typed (p4.slice p a m k) i h = h
    if_typed (p4.cast p ty a) i h = h

    abbrev NoTable : p4.Expr → Type 0
    NoTable (p4.applied p t b) = ⊥
    NoTable _ = Unit {0}

    negated_plain : (e : p4.Expr) → NoTable e → IsPlain (p4.negation 0 e)
    negated_plain (p4.applied q x b) i = i
    negated_plain (p4.num q n) i = tt
    negated_plain (p4.flag q b) i = tt
    negated_plain (p4.path q x) i = tt
    negated_plain (p4.valid q x) i = tt
    negated_plain (p4.error_name q x) i = tt
    negated_plain (p4.negation q a) i = tt
    negated_plain (p4.inversion q a) i = tt
    negated_plain (p4.opposite q a) i = tt
    negated_plain (p4.binary q o a b) i = tt
    negated_plain (p4.conditional q x a b) i = tt
    negated_plain (p4.slice q a m k) i = tt
    negated_plain (p4.cast q ty a) i = tt

    module _ (base : ℕ) (l : List Expr) (P : p4.Expr → Type 0) (paths : (p : List (List ℕ)) → P (p4.path 0 p)) (valids : (p : List (List ℕ)) → P (p4.valid 0 p)) (casts : (e : p4.Expr) → P (p4.cast 0 type.Bool e)) (flags : P (p4.flag 0 false)) where
      of_plain : (ty : Ty) (p : List (List ℕ)) → P (of_bits ty (p4.path 0 p))
      of_plain (ty.Bit w) p = paths p
      of_plain ty.Bool p = casts (p4.path 0 p)

      name_plain : (e : Expr) (x : List ℕ) (o : Option Decl) → P (name_for A ds base l o e x)
      name_plain e x None = go (same_text x (codes "first_hop")) (same_text x (codes "last_hop"))
        where
          go : (a b : Bool) → P (cond a (variable first_name) (cond b (variable last_name) (p4.path 0 (switch_name ∷ []))))
          go true b = paths _
          go false true = paths _
          go false false = paths _
      name_plain e x (Some c) = go c.kind
        where
          go : (k : DeclKind) → P (name_by_kind A ds base l k e x c)
          go Tele = of_plain (value_type c.shape) _
          go Sensor = of_plain (value_type c.shape) _
          go Header = view c.valid
            where
              view : (b : Bool) → P (cond b (p4.valid 0 (rooted_path r (parent c.path))) (p4.path 0 (rooted_path r c.path)))
              view true = valids _
              view false = paths _
          go Control = of_plain (value_type c.shape) _

      held_plain : (e : Expr) (o : Option Decl) → P (found_for A ds base l o e)
      held_plain e None = flags
      held_plain e (Some c) = of_plain (value_type c.shape) _

    no_table : (base : ℕ) (l : List Expr) (e : Expr) → NoTable (lowered A ds base l e)
    no_table base l (num p n) = tt
    no_table base l (flag p b) = tt
    no_table base l (reads_it p x) = name_plain base l NoTable (λ p. tt) (λ p. tt) (λ e. tt) tt (reads_it p x) x (lookup ds x)
    no_table base l (count p x) = tt
    no_table base l (index p x ks) = held_plain base l NoTable (λ p. tt) (λ p. tt) (λ e. tt) tt (index p x ks) (lookup ds x)
    no_table base l (member p ks x) = held_plain base l NoTable (λ p. tt) (λ p. tt) (λ e. tt) tt (member p ks x) (lookup ds x)
    no_table base l (negation p a) = tt
    no_table base l (inversion p a) = tt
    no_table base l (binary p o a b) = tt
    no_table base l (cast p v a) = tt

    plain_test : (base : ℕ) (l : List Expr) (e : Expr) → IsPlain (lowered A ds base l e)
    plain_test base l (num p n) = tt
    plain_test base l (flag p b) = tt
    plain_test base l (reads_it p x) = name_plain base l IsPlain (λ p. tt) (λ p. tt) (λ e. tt) tt (reads_it p x) x (lookup ds x)
    plain_test base l (count p x) = tt
    plain_test base l (index p x ks) = held_plain base l IsPlain (λ p. tt) (λ p. tt) (λ e. tt) tt (index p x ks) (lookup ds x)
    plain_test base l (member p ks x) = held_plain base l IsPlain (λ p. tt) (λ p. tt) (λ e. tt) tt (member p ks x) (lookup ds x)
    plain_test base l (negation p a) = negated_plain (lowered A ds base l a) (no_table base l a)
    plain_test base l (inversion p a) = tt
    plain_test base l (binary p o a b) = tt
    plain_test base l (cast p v a) = tt

    else_typed : (a : Stmts) → IsFine (block_tests part.Apply sc a) → IsFine (else_tests part.Apply sc (maybe_else a))
    else_typed done h = tt
    else_typed (next c a) h = (refl, h)

    all_length : (base : ℕ) (l : List Expr) (es : Exprs) → length (lowered_all A ds base l es) ≡ exprs_count es
    all_length base l none = refl
    all_length base l (more e es) = (let h = all_length base l es in omega (arith, h))

    checked : is_check st.block ≡ true → exits ≡ true
    checked h = go exits refl
      where
        not_both : (b : Block) → is_check b ≡ true → is_init b ≡ true → ⊥
        not_both block.Init c i = absurd (cc c)
        not_both block.Tele c i = absurd (cc c)
        not_both block.Check c i = absurd (cc i)

        go : (b : Bool) → exits ≡ b → exits ≡ true
        go true e = e
        go false e = absurd (not_both st.block h (hops e))

    there_left : (a b : List (ℕ × Option Decl)) → AreThere (a ++ b) → AreThere a
    there_left [] b h = tt
    there_left (x ∷ a) b h = (h.0, there_left a b h.1)

    there_right : (a b : List (ℕ × Option Decl)) → AreThere (a ++ b) → AreThere b
    there_right [] b h = h
    there_right (x ∷ a) b h = there_right a b h.1

    mutual
      stmt_typed : (c : indus.Stmt) (n : ℕ) → Fine (stmt_sites st c) → IsFlatStmt ds c → AreThere (stmt_numbers ds c n) → IsFine (block_tests part.Apply sc (stmt_code A ds c n))
      stmt_typed (indus.assign p x e) n f i there =
          let l = stmt_reads ds (indus.assign p x e) in
          with_typed n (indus.assign p x e) (λ k. set_name A (lookup ds x) x (lowered A ds n k e)) f i there
          (λ found. set_typed n l p x e (lookup ds x) refl f (rights n l found e _ f.1 i (expr_covers st e _ f.1 i)))
      stmt_typed (indus.cell p x a e) n f i there =
          let l = stmt_reads ds (indus.cell p x a e) in
          with_typed n (indus.cell p x a e) (λ k. set_array (lookup ds x) (lowered A ds n k a) (lowered A ds n k e)) f i there
          (λ found. cell_typed n l p x a e (lookup ds x) refl f (rights n l found a _ f.1.0 i.0 (index_covers st a e _ _ f.1.0 f.1.1 i.0 i.1)) (rights n l found e _ f.1.1 i.1 (value_covers st a e _ _ f.1.0 f.1.1 i.0 i.1)))
      stmt_typed (indus.push p x e) n f i there = tt
      stmt_typed (indus.choice p b a c) n f i there =
          let w = indus.choice p b a c in
          let l = stmt_reads ds w in
          let k = behind ds w n in
          let j = block_end ds a k in
          let here = numbered_reads ds n l in
          let na = block_numbers ds a k in
          let nc = block_numbers ds c j in
          let rest = there_right here (na ++ nc) there in
          with_typed n w
          (λ l. next (p4.choice 0 (lowered A ds n l b) (p4.block 0 (block_code A ds a (n + length l))) (maybe_else (block_code A ds c (block_end ds a (n + length l))))) done) f i (there_left here (na ++ nc) there)
          (λ found. (
            (
              refl,
              (
                if_typed (lowered A ds n l b) (plain_test n l b) (fine_same A ds n l sc st b Truth (rights n l found b _ f.1.0 i.0 (expr_covers st b _ f.1.0 i.0)) f.1.0),
                ((refl, block_typed a k f.1.1.0 i.1 (there_left na nc rest)), else_typed (block_code A ds c j) (block_typed c j f.1.1.1 i.2 (there_right na nc rest))),
              ),
            ),
            tt,
          ))
      stmt_typed (indus.loop p xs ls a) n f i there = tt
      stmt_typed (indus.reject p) n f i there =
          let e = s.rejected (checked (twice_not (is_check st.block) (f WrongBlock))) in
          ((refl, (subst (λ q. IsFine (target_tests 0 q)) (sym e) (refl, (refl, refl)), subst (λ q. IsFine (rules.expr_tests sc (value_kind q) (p4.flag 0 true))) (sym e) (refl, refl))), tt)
      stmt_typed (indus.report p m es) n f i there =
          let l = stmt_reads ds (indus.report p m es) in
          with_typed n (indus.report p m es) (λ k. next (tell m (lowered_all A ds n k es)) done) f i there
          (λ found. (
            tell_typed sc m (lowered_all A ds n l es) s.digest (let le = ltb-false 8 (exprs_count es) (f.0 BadSize) in let k = all_length n l es in omega (arith, le, k))
                (all_free_fine A ds n l sc st es (each_right exits r sc st flat hops well s.offers n l found es _ f.1 i (exprs_covered st es _ f.1 i)) f.1),
            tt,
          ))

      pub block_typed : (ss : indus.Stmts) (n : ℕ) → Fine (block_sites st ss) → IsFlatBlock ds ss → AreThere (block_numbers ds ss n) → IsFine (block_tests part.Apply sc (block_code A ds ss n))
      block_typed indus.done n f i there = tt
      block_typed (indus.next c ss) n f i there =
          let k = stmt_end ds c n in
          join_fits (stmt_code A ds c n) (block_code A ds ss k) sc (stmt_typed c n f.0 i.0 (there_left (stmt_numbers ds c n) (block_numbers ds ss k) there))
          (subst (λ z. IsFine (block_tests part.Apply z (block_code A ds ss k))) (sym ((stmt_quiet A ds c n).stays sc)) (block_typed ss k f.1 i.1 (there_right (stmt_numbers ds c n) (block_numbers ds ss k) there)))
