-- What is in sight in a well-typed property has sound widths: its declarations have, and so have the items of loops,
-- since a loop walks lists.
use Rattle.std.proofs.Common.{◌≡◌, ℕ, zero, suc, ◌≤◌, length, List, [], ◌∷◌, ◌++◌, Bool, true, false, cond, ◌&&◌, ◌||◌, Option, Some, None, refl, sym, ap, ◌∙◌, subst, nat_eq, nat_lt, arith}
use Rattle.std.proofs.lemmas.Bool.{ltb-false}
use Rattle.std.proofs.lemmas.Slice.Eq.{bytes_eq-Decides}
use Rattle.rule_sites.specs.Sites.{or_else}
use Rattle.lex_text.specs.Names.{same_text}
use Rattle.indus_tree.specs.Tree.{Stmts, loop, Shape, one, list, set, dict, Decl, Property}
use Rattle.indus_tree.specs.State.{lookup, shape_width, width_of}
use Rattle.indus_tree.specs.declared.tree.Ty.{Ty}
use Rattle.indus_tree.specs.declared.tree.Ty.TheVariants as ty
use Rattle.indus_tree.specs.declared.tree.DeclKind.{DeclKind}
use Rattle.indus_tree.specs.declared.tree.DeclKind.TheVariants.{Tele, Sensor, Header, Control}
use Rattle.indus_scopes.specs.Scopes.{Sight, role_of, role_from, item_of, item_in, item_kind, shape_item, list_item, builtin_of}
use Rattle.indus_scopes.specs.Uses.{is_missing, counts, is_list}
use Rattle.indus_rules.specs.Sites.{decl_sites, stmt_sites, sight}
use Rattle.indus_scopes.specs.Items.{within, repeats}
use Rattle.std.specs.Option.{is_some}
use Rattle.indus_rules.specs.Rules.{Fine, IsWellTyped, bad_bits, bad_width, bad_widths, bad_shape, any_missing, all_count, same_count, paired}
use Rattle.indus_rules.specs.declared.rule.Rule.TheVariants.{NameTwice, NoSuchName, KindDiffers, BadSize}
use Rattle.indus_scopes.specs.declared.kind.Kind.{Kind}
use Rattle.indus_scopes.specs.declared.scope.Block.{Block}
use Rattle.indus_types.specs.Fits.{kind_width}
use Rattle.indus_types.specs.StaticWidths.{IsWidth, IsSound, SightsAreSound}
use Rattle.indus_types.proofs.Widths.{neither, twice_not, kind_of_width}
use Rattle.indus_types.proofs.Checked.{each_fine}

-- both sides of a true `and` hold
pub both_hold : (a b : Bool) → (a && b) ≡ true → (a ≡ true) × (b ≡ true)
both_hold true b h = (refl, h)
both_hold false b h = absurd (let c : false ≡ true = h in cc)

-- ---- declarations

pub good_bits : (w : ℕ) → bad_bits w ≡ false → IsWidth w
good_bits w h =
    let n = neither (nat_eq w 0) (nat_lt 128 w) h in
    let most : w ≤ 128 = ltb-false 128 w n.1 in
    record { least = least_step w n.0; most = most }
  where
    least_step : (w : ℕ) → nat_eq w 0 ≡ false → 1 ≤ w
    least_step zero e = absurd (let c : true ≡ false = e in cc)
    least_step (suc w) e = omega arith

pub one_bit : IsWidth 1
one_bit = record { least = omega arith; most = omega arith }

good_width : (t : Ty) → bad_width t ≡ false → IsWidth (width_of t)
good_width (ty.Bit w) h = good_bits w h
good_width ty.Bool h = one_bit

good_shape : (s : Shape) → bad_shape s ≡ false → IsWidth (shape_width s)
good_shape (one t) h = good_width t h
good_shape (list t n) h = good_width t (neither (bad_width t) (nat_eq n 0) (neither (bad_width t || nat_eq n 0) (nat_lt 255 n) h).0).0
good_shape (set ks) h = one_bit
good_shape (dict ks t) h = good_width t (neither (bad_widths ks || nat_lt 4 (length ks)) (bad_width t) h).1

none_there : (o : Option Kind) → is_some o ≡ false → o ≡ None
none_there None h = refl
none_there (Some k) h = absurd (let c : true ≡ false = h in cc)

record IsGood (x : List ℕ) (d : Decl) : Type 0 where
  width : IsWidth (shape_width d.shape)
  apart : builtin_of x ≡ None

module _ (x : List ℕ) (d : Decl) where
  decl_step : (v : Decl) (rest : Option Decl) → IsWidth (shape_width v.shape) → is_some (builtin_of v.name) ≡ false → (rest ≡ Some d → IsGood x d) → (b : Bool) → same_text v.name x ≡ b → cond b (Some v) rest ≡ Some d → IsGood x d
  decl_step v rest w n h true t e =
      let same : v ≡ d = cc in
      let good : IsGood x v = record { width = w; apart = none_there (builtin_of x) (ap (λ y. is_some (builtin_of y)) (sym ((bytes_eq-Decides v.name x).0 t)) ∙ n) } in
      subst (IsGood x) same good
  decl_step v rest w n h false t e = h e

  decl_good : (ds before : List Decl) → Fine (decl_sites before ds) → lookup ds x ≡ Some d → IsGood x d
  decl_good [] before f e = absurd (let c : (let n : Option Decl = None in n) ≡ Some d = e in cc)
  decl_good (v ∷ vs) before f e =
      decl_step v (lookup vs x) (good_shape v.shape (f.0.0 BadSize)) (neither (is_some (lookup before v.name)) (is_some (builtin_of v.name)) (f.0.0 NameTwice)).1 (decl_good vs (before ++ v ∷ []) f.1) (same_text v.name x) refl e

no_items : (k : Kind) → (let n : Option Kind = None in n) ≡ Some k → IsWidth (kind_width k)
no_items k e = absurd (let c : (let n : Option Kind = None in n) ≡ Some k = e in cc)

pub block_sound : (p : Property) → IsWellTyped p → (b : Block) → IsSound (sight p b)
block_sound p h b =
    let f = each_fine p h in
    record {
      decls = λ x d e. (decl_good x d p.decls [] f.1.0 e).width;
      apart = λ x d e. (decl_good x d p.decls [] f.1.0 e).apart;
      items = λ x k e. no_items k e;
    }

-- of an initial value nothing is in sight
pub nothing_sound : (b : Block) → IsSound (record { edition = 1; decls = []; loops = []; block = b })
nothing_sound b =
    record {
      decls = λ x d e. absurd (let c : (let n : Option Decl = None in n) ≡ Some d = e in cc);
      apart = λ x d e. absurd (let c : (let n : Option Decl = None in n) ≡ Some d = e in cc);
      items = λ x k e. no_items k e;
    }

-- ---- loops

-- a list of the packet's, and what its items are
pub record IsWalked (ds : List Decl) (l : List ℕ) : Type 0 where
  pub decl : Decl
  pub found : lookup ds l ≡ Some decl
  pub kind : decl.kind ≡ Tele
  pub width : kind_width (list_item ds l) ≡ shape_width decl.shape

list_step : (k : DeclKind) (s : Shape) → is_list k s ≡ true → k ≡ Tele
list_step Tele s h = refl
list_step Sensor s h = absurd (let c : false ≡ true = h in cc)
list_step Header s h = absurd (let c : false ≡ true = h in cc)
list_step Control s h = absurd (let c : false ≡ true = h in cc)

item_width : (k : DeclKind) (s : Shape) (d : Decl) → d.shape ≡ s → is_list k s ≡ true → kind_width (item_kind (Some d)) ≡ shape_width d.shape
item_width k (list t n) d e h = subst (λ s. kind_width (shape_item s) ≡ shape_width s) (sym e) (kind_of_width t)
item_width Tele (one t) d e h = absurd (let c : false ≡ true = h in cc)
item_width Sensor (one t) d e h = absurd (let c : false ≡ true = h in cc)
item_width Header (one t) d e h = absurd (let c : false ≡ true = h in cc)
item_width Control (one t) d e h = absurd (let c : false ≡ true = h in cc)
item_width Tele (set ks) d e h = absurd (let c : false ≡ true = h in cc)
item_width Sensor (set ks) d e h = absurd (let c : false ≡ true = h in cc)
item_width Header (set ks) d e h = absurd (let c : false ≡ true = h in cc)
item_width Control (set ks) d e h = absurd (let c : false ≡ true = h in cc)
item_width Tele (dict ks t) d e h = absurd (let c : false ≡ true = h in cc)
item_width Sensor (dict ks t) d e h = absurd (let c : false ≡ true = h in cc)
item_width Header (dict ks t) d e h = absurd (let c : false ≡ true = h in cc)
item_width Control (dict ks t) d e h = absurd (let c : false ≡ true = h in cc)

walked_step : (ds : List Decl) (l : List ℕ) (i b : Option Kind) (o : Option Decl) → lookup ds l ≡ o → is_missing (role_from i b o) ≡ false → counts (role_from i b o) ≡ true → IsWalked ds l
walked_step ds l (Some k) b o e m h = absurd (let c : false ≡ true = h in cc)
walked_step ds l None (Some k) o e m h = absurd (let c : false ≡ true = h in cc)
walked_step ds l None None (Some d) e m h = record { decl = d; found = e; kind = list_step d.kind d.shape h; width = ap (λ o. kind_width (item_kind o)) e ∙ item_width d.kind d.shape d refl h }
walked_step ds l None None None e m h = absurd (let c : true ≡ false = m in cc)

-- each of some names is of a list
abbrev pub AreWalked : List Decl → List (List ℕ) → Type 0
AreWalked ds [] = Unit {0}
AreWalked ds (l ∷ ls) = IsWalked ds l × AreWalked ds ls

all_walked : (g : Sight) (ls : List (List ℕ)) → any_missing g ls ≡ false → all_count g ls ≡ true → AreWalked g.decls ls
all_walked g [] m h = tt
all_walked g (l ∷ ls) m h =
    let n = neither (is_missing (role_of g l)) _ m in
    let b = both_hold (counts (role_of g l)) _ h in
    (walked_step g.decls l (item_of g.decls g.loops l) (builtin_of l) (lookup g.decls l) refl n.0 b.0, all_walked g ls n.1 b.1)

-- what the rules say of a loop: as many items as lists, which are lists, and new names
pub record IsLoop (g : Sight) (ns ls : List (List ℕ)) : Type 0 where
  pub count : same_count ns ls ≡ true
  pub walked : AreWalked g.decls ls
  pub names : repeats g ns ≡ false

count_step : (ns ls : List (List ℕ)) → paired ns ls ≡ true → same_count ns ls ≡ true
count_step [] ls h = absurd (let c : false ≡ true = h in cc)
count_step (n ∷ ns) [] h = absurd (let c : false ≡ true = h in cc)
count_step (n ∷ ns) (l ∷ ls) h = h

pub loop_facts : (g : Sight) (p : ℕ) (ns ls : List (List ℕ)) (a : Stmts) → Fine (stmt_sites g (loop p ns ls a)) → IsLoop g ns ls
loop_facts g p ns ls a f =
    let b = both_hold (paired ns ls) (all_count g ls) (twice_not _ (f.0 KindDiffers)) in
    record { count = count_step ns ls b.0; walked = all_walked g ls (f.0 NoSuchName) b.1; names = f.0 NameTwice }

module _ (k : Kind) where
  test_step : (b : Bool) (j : Kind) (rest : Option Kind) → IsWidth (kind_width j) → (rest ≡ Some k → IsWidth (kind_width k)) → cond b (Some j) rest ≡ Some k → IsWidth (kind_width k)
  test_step true j rest w h e = let same : j ≡ k = cc in subst (λ i. IsWidth (kind_width i)) same w
  test_step false j rest w h e = h e

  or_step : (o q : Option Kind) → (o ≡ Some k → IsWidth (kind_width k)) → (q ≡ Some k → IsWidth (kind_width k)) → or_else o q ≡ Some k → IsWidth (kind_width k)
  or_step (Some j) q h i e = h e
  or_step None q h i e = i e

  -- an item of a loop has the width of its list's items
  item_sound : (g : Sight) → IsSound g → (x : List ℕ) (ns ls : List (List ℕ)) → same_count ns ls ≡ true → AreWalked g.decls ls → item_in g.decls ns ls x ≡ Some k → IsWidth (kind_width k)
  item_sound g is x [] ls c w e = no_items k e
  item_sound g is x (n ∷ ns) [] c w e = absurd (let d : false ≡ true = c in cc)
  item_sound g is x (n ∷ ns) (l ∷ ls) c w e =
      test_step (same_text n x) (list_item g.decls l) (item_in g.decls ns ls x) (subst IsWidth (sym w.0.width) (is.decls l w.0.decl w.0.found)) (item_sound g is x ns ls c w.1) e

pub loop_sound : (g : Sight) → IsSound g → (p : ℕ) (ns ls : List (List ℕ)) (a : Stmts) → Fine (stmt_sites g (loop p ns ls a)) → IsSound (within g ns ls)
loop_sound g is p ns ls a f =
    let facts = loop_facts g p ns ls a f in
    record {
      decls = is.decls;
      apart = is.apart;
      items = λ x k. or_step k (item_in g.decls ns ls x) (item_of g.decls g.loops x) (item_sound k g is x ns ls facts.count facts.walked) (is.items x k);
    }

pub sights_sound : SightsAreSound
sights_sound = record { blocks = block_sound; loops = loop_sound }
