-- What expressions see has the declared widths: in a block where variables keep to their declarations, and in each turn
-- of a loop, whose items are those of lists.
use Rattle.std.proofs.Common.{◌≡◌, ℕ, zero, suc, ◌≤◌, ◌<◌, List, [], ◌∷◌, ◌++◌, length, map, All, Bool, true, false, cond, not, ◌||◌, Option, Some, None, refl, sym, ap, ◌∙◌, subst, arith}
use Rattle.std.specs.Prelude.{codes, slice_get}
use Rattle.std.proofs.lemmas.Option.{slice_get_within, get_or_from_slice_get, slice_get-get_or}
use Rattle.std.proofs.lemmas.Slice.Eq.{bytes_eq-Decides}
use Rattle.std.proofs.lemmas.List.Elements.{All-nil, All-cons, All-head, All-tail, All-append, All-get_or, All-weaker}
use Rattle.bit_values.specs.Bits.{Word, word, cast}
use Rattle.bit_values.specs.Widths.{bit, sound_width}
use Rattle.lex_text.specs.Names.{same_text}
use Rattle.rule_sites.specs.Sites.{or_else}
use Rattle.indus_tree.specs.Tree.{Stmts, loop, Decl, Property}
use Rattle.network_run.specs.PathMeaning.{Doing}
use Rattle.indus_tree.specs.State.{Contents, single, members, pairs, Hop, Held, lookup, shape_width, held_width, nothing_of}
use Rattle.indus_tree.specs.declared.tree.DeclKind.{DeclKind}
use Rattle.indus_tree.specs.declared.tree.DeclKind.TheVariants.{Tele, Sensor, Header, Control}
use Rattle.indus_tree.specs.Reads.{Items, Seen, scalar, single_word, word_by_kind, variable_word, item_in, or_word}
use Rattle.indus_tree.specs.Keys.{same_words, found, found_in, cell_at, at_key_by_kind, at_key}
use Rattle.indus_tree.specs.Meaning.{seen_by, shortest, turn_items, first_turns, turns_of, named}
use Rattle.indus_tree.specs.Shapes.{HasWidth, AreShaped}
use Rattle.indus_scopes.specs.Scopes.{Sight, role_of, role_from, read_kind, list_item, item_of, item_in as loop_item, builtin_of}
use Rattle.indus_scopes.specs.Uses.{is_missing, reads}
use Rattle.indus_rules.specs.Sites.{stmt_sites, sight}
use Rattle.indus_scopes.specs.Items.{within, among, repeats}
use Rattle.std.specs.Option.{is_some}
use Rattle.indus_rules.specs.Rules.{Fine, same_count}
use Rattle.indus_scopes.specs.declared.kind.Kind.{Kind}
use Rattle.indus_scopes.specs.declared.kind.Kind.TheVariants.{Number, Truth, Unknown}
use Rattle.indus_scopes.specs.declared.scope.Block.{Block}
use Rattle.indus_types.specs.Fits.{kind_width, Fits}
use Rattle.indus_types.specs.StaticWidths.{IsSound, GiveWidth, ShowsDeclared, IsItem, SeesDeclared, SightsAreSeen}
use Rattle.indus_types.proofs.Widths.{neither, twice_not}
use Rattle.indus_types.proofs.SoundSights.{AreWalked, IsLoop, loop_facts}
use Rattle.indus_types.proofs.StaticWidthsLemmas.{sound_is, scalar_width}

-- ---- words that are read

-- the word at an index has the width, and so has 0 where there is none
module _ (w : ℕ) where
  -- the width that a declaration gives
  abbrev Has : Word → Type 0
  Has a = a.width ≡ sound_width w

  scalar_has : (ws : List Word) → All (HasWidth w) ws → Has (scalar ws w)
  scalar_has [] all = refl
  scalar_has (a ∷ ws) all = (All-head (HasWidth w) a ws all).width

  at_index : (o : Option Word) → ((v : Word) → o ≡ Some v → Has v) → Has (or_word o (nothing_of w))
  at_index None h = refl
  at_index (Some v) h = h v refl

  cell_has : (ws ks : List Word) → All (HasWidth w) ws → Has (cell_at ws ks w)
  cell_has ws [] all = refl
  cell_has ws (k ∷ ks) all =
      at_index (slice_get ws k.value)
      (λ v e. (subst (HasWidth w) (get_or_from_slice_get ws k.value v (nothing_of w) e) (All-get_or (HasWidth w) ws k.value (nothing_of w) (slice_get_within ws k.value v e) all)).width)

  single_has : (c : Contents) → GiveWidth w c → Has (single_word c w)
  single_has (single x) h = h.width
  single_has (members ks) h = refl
  single_has (pairs es) h = refl

  either_has : (b : Bool) (u v : Word) → Has u → Has v → Has (cond b u v)
  either_has true u v h k = h
  either_has false u v h k = k

  found_has : (es : List (List Word × Word)) (ks : List Word) → All (λ (e : List Word × Word). HasWidth w e.1) es → Has (found es ks w)
  found_has [] ks all = refl
  found_has (e ∷ es) ks all =
      either_has (same_words e.0 ks) e.1 (found es ks w) (All-head (λ (e : List Word × Word). HasWidth w e.1) e es all).width (found_has es ks (All-tail (λ (e : List Word × Word). HasWidth w e.1) e es all))

  found_in_has : (c : Contents) (ks : List Word) → GiveWidth w c → Has (found_in c ks w)
  found_in_has (single x) ks h = refl
  found_in_has (members k) ks h = refl
  found_in_has (pairs es) ks h = found_has es ks h

module _ (g : Sight) (s : Seen) (sees : SeesDeclared g s) (x : List ℕ) (d : Decl) (e : lookup g.decls x ≡ Some d) where
  -- a variable's word has its declared width
  variable_has : (k : DeclKind) → d.kind ≡ k → (word_by_kind k s x (shape_width d.shape)).width ≡ sound_width (shape_width d.shape)
  variable_has Tele q = scalar_has (shape_width d.shape) (s.tele x) (sees.tele x d e q)
  variable_has Sensor q = scalar_has (shape_width d.shape) (s.sensors x) (sees.sensors x d e q)
  variable_has Header q = (sees.hop.headers x d e q).width
  variable_has Control q = single_has (shape_width d.shape) (s.hop.contents x) (sees.hop.contents x d e q)

  -- and so has what it has at a key
  key_has : (ks : List Word) (k : DeclKind) → d.kind ≡ k → (at_key_by_kind k s x ks (shape_width d.shape)).width ≡ sound_width (shape_width d.shape)
  key_has ks Tele q = refl
  key_has ks Sensor q = cell_has (shape_width d.shape) (s.sensors x) ks (sees.sensors x d e q)
  key_has ks Header q = refl
  key_has ks Control q = found_in_has (shape_width d.shape) (s.hop.contents x) ks (sees.hop.contents x d e q)

-- what a declared variable has at a key has the declared width
pub at_key_has : (g : Sight) (s : Seen) → SeesDeclared g s → (x : List ℕ) (ks : List Word) (o : Option Decl) → lookup g.decls x ≡ o → is_some o ≡ true → (at_key s x o ks).width ≡ sound_width (held_width o)
at_key_has g s sees x ks None e h = absurd (let c : false ≡ true = h in cc)
at_key_has g s sees x ks (Some d) e h = key_has g s sees x d e ks d.kind refl

-- ---- names

builtin_has : (h : Hop) (k : Kind) (a b c : Bool) → cond (a || b) (Some Truth) (cond c (Some (Number 16)) None) ≡ Some k → (cond a (bit h.first) (cond b (bit h.last) (cond c (word 16 (cast 16 h.switch)) (nothing_of 0)))).width ≡ kind_width k
builtin_has h k true b c e = let same : Truth ≡ k = cc in ap kind_width same
builtin_has h k false true c e = let same : Truth ≡ k = cc in ap kind_width same
builtin_has h k false false true e = let same : Number 16 ≡ k = cc in ap kind_width same
builtin_has h k false false false e = absurd (let c : (let n : Option Kind = None in n) ≡ Some k = e in cc)

module _ (g : Sight) (s : Seen) (is : IsSound g) (sees : SeesDeclared g s) (x : List ℕ) where
  name_step :
      (i b : Option Kind) (o : Option Decl) (v : Option Word) → item_of g.decls g.loops x ≡ i → builtin_of x ≡ b → lookup g.decls x ≡ o → IsItem i v
      → is_missing (role_from i b o) ≡ false → reads (role_from i b o) ≡ true → (or_word v (variable_word s x o)).width ≡ kind_width (read_kind (role_from i b o))
  name_step (Some k) b o None e f q it m h = absurd it
  name_step (Some k) b o (Some w) e f q it m h = it.width ∙ sound_is (kind_width k) (is.items x k e)
  name_step None b o (Some w) e f q it m h = absurd it
  name_step None (Some k) (Some d) None e f q it m h = absurd (let n = is.apart x d q in let c : (let n : Option Kind = None in n) ≡ Some k = sym n ∙ f in cc)
  name_step None (Some k) None None e f q it m h = builtin_has s.hop k (same_text x (codes "first_hop")) (same_text x (codes "last_hop")) (same_text x (codes "switch_id")) f
  name_step None None (Some d) None e f q it m h = variable_has g s sees x d q d.kind refl ∙ sound_is (shape_width d.shape) (is.decls x d q) ∙ scalar_width d.shape h
  name_step None None None None e f q it m h = absurd (let c : true ≡ false = m in cc)

pub sees_fits : (g : Sight) (s : Seen) → IsSound g → SeesDeclared g s → Fits g s
sees_fits g s is sees =
    record {
      decls = sees.decls;
      names = λ x m h. subst (λ ds. (or_word (item_in s.items x) (variable_word s x (lookup ds x))).width ≡ kind_width (read_kind (role_of g x))) (sym sees.decls) (name_step g s is sees x (item_of g.decls g.loops x) (builtin_of x) (lookup g.decls x) (item_in s.items x) refl refl refl (sees.items x) m h);
    }

-- ---- blocks

pub block_sees : (p : Property) (b : Block) (h : Hop) (d : Doing Held Held) → h.decls ≡ p.decls → ShowsDeclared p.decls h → AreShaped p.decls d → SeesDeclared (sight p b) (seen_by h [] d)
block_sees p b h d e shows shaped =
    record {
      decls = e;
      hop = shows;
      items = λ x. tt;
      tele = λ x v f q. (shaped.tele x v f q).words;
      sensors = λ x v f q. (shaped.sensors x v f q).words;
    }

-- ---- loops

-- a turn's words have the widths of the items of their lists
abbrev AreItems : List Decl → (lists : List (List ℕ)) → List Word → Type 0
AreItems ds [] ws = Unit {0}
AreItems ds (l ∷ ls) [] = ⊥
AreItems ds (l ∷ ls) (w ∷ ws) = HasWidth (kind_width (list_item ds l)) w × AreItems ds ls ws

test_item : (b : Bool) (k : Kind) (w : Word) (o : Option Kind) (v : Option Word) → HasWidth (kind_width k) w → IsItem o v → IsItem (cond b (Some k) o) (cond b (Some w) v)
test_item true k w o v h it = h
test_item false k w o v h it = it

-- an item of the loop is one of its turn
turn_item : (ds : List Decl) (x : List ℕ) (ns ls : List (List ℕ)) (ws : List Word) → same_count ns ls ≡ true → AreItems ds ls ws → IsItem (loop_item ds ns ls x) (item_in (named ns ws) x)
turn_item ds x [] ls ws c h = tt
turn_item ds x (n ∷ ns) [] ws c h = absurd (let d : false ≡ true = c in cc)
turn_item ds x (n ∷ ns) (l ∷ ls) [] c h = absurd h
turn_item ds x (n ∷ ns) (l ∷ ls) (w ∷ ws) c h = test_item (same_text n x) (list_item ds l) w (loop_item ds ns ls x) (item_in (named ns ws) x) h.0 (turn_item ds x ns ls ws c h.1)

-- a name that is new stands for no item yet
new_step : (i b : Option Kind) (o : Option Decl) → is_missing (role_from i b o) ≡ true → i ≡ None
new_step None b o h = refl
new_step (Some k) b o h = absurd (let c : false ≡ true = h in cc)

module _ (g : Sight) (x : List ℕ) (k : Kind) where
  fresh_step : (n : List ℕ) (j : Kind) (rest : Option Kind) → is_missing (role_of g n) ≡ true → (rest ≡ Some k → item_of g.decls g.loops x ≡ None) → (b : Bool) → same_text n x ≡ b → cond b (Some j) rest ≡ Some k → item_of g.decls g.loops x ≡ None
  fresh_step n j rest m h true t e = new_step (item_of g.decls g.loops x) (builtin_of x) (lookup g.decls x) (ap (λ y. is_missing (role_of g y)) (sym ((bytes_eq-Decides n x).0 t)) ∙ m)
  fresh_step n j rest m h false t e = h e

  fresh : (ns ls : List (List ℕ)) → repeats g ns ≡ false → loop_item g.decls ns ls x ≡ Some k → item_of g.decls g.loops x ≡ None
  fresh [] ls r e = absurd (let c : (let n : Option Kind = None in n) ≡ Some k = e in cc)
  fresh (n ∷ ns) [] r e =
      let t = neither (not (is_missing (role_of g n)) || among ns n) (repeats g ns) r in
      fresh_step n Unknown (loop_item g.decls ns [] x) (twice_not _ (neither (not (is_missing (role_of g n))) (among ns n) t.0).0) (fresh ns [] t.1) (same_text n x) refl e
  fresh (n ∷ ns) (l ∷ ls) r e =
      let t = neither (not (is_missing (role_of g n)) || among ns n) (repeats g ns) r in
      fresh_step n (list_item g.decls l) (loop_item g.decls ns ls x) (twice_not _ (neither (not (is_missing (role_of g n))) (among ns n) t.0).0) (fresh ns ls t.1) (same_text n x) refl e

module _ (r q : Option Kind) (new : (k : Kind) → r ≡ Some k → q ≡ None) where
  item_step : (b : Bool) (w : Word) (v u : Option Word) → (IsItem q v → IsItem (or_else r q) u) → IsItem q (cond b (Some w) v) → IsItem (or_else r q) (cond b (Some w) u)
  item_step true w v u h it = old r q new w it
    where
      old : (r q : Option Kind) → ((k : Kind) → r ≡ Some k → q ≡ None) → (w : Word) → IsItem q (Some w) → IsItem (or_else r q) (Some w)
      old r None new w it = absurd it
      old None (Some k) new w it = it
      old (Some m) (Some k) new w it = absurd (let n : Option Kind = None in let c : Some k ≡ n = new m refl in cc)
  item_step false w v u h it = h it

no_item : (r q : Option Kind) (u : Option Word) → ((k : Kind) → r ≡ Some k → q ≡ None) → IsItem q None → IsItem r u → IsItem (or_else r q) u
no_item (Some k) q u new h it = it
no_item None None u new h it = it
no_item None (Some k) u new h it = absurd h

-- the items of the loops around stand before those of the turn; no name has both
first_item : (i j : Items) (x : List ℕ) (r q : Option Kind) → ((k : Kind) → r ≡ Some k → q ≡ None) → IsItem q (item_in i x) → IsItem r (item_in j x) → IsItem (or_else r q) (item_in (i ++ j) x)
first_item [] j x r q new h it = no_item r q (item_in j x) new h it
first_item (a ∷ i) j x r q new h it = item_step r q new (same_text a.0 x) a.1 (item_in i x) (item_in (i ++ j) x) (λ k. first_item i j x r q new k it) h

-- in a turn whose words are items of the lists, a loop's statements see what is declared
turn_sees :
    (g : Sight) (h : Hop) (i : Items) (d : Doing Held Held) → SeesDeclared g (seen_by h i d)
    → (ns ls : List (List ℕ)) → IsLoop g ns ls → (ws : List Word) → AreItems g.decls ls ws
    → (c : Doing Held Held) → AreShaped g.decls c → SeesDeclared (within g ns ls) (seen_by h (i ++ named ns ws) c)
turn_sees g h i d sees ns ls is ws words c shaped =
    record {
      decls = sees.decls;
      hop = sees.hop;
      items = λ x. first_item i (named ns ws) x (loop_item g.decls ns ls x) (item_of g.decls g.loops x) (λ k. fresh g x k ns ls is.names) (sees.items x) (turn_item g.decls x ns ls ws is.count words);
      tele = λ x v f q. (shaped.tele x v f q).words;
      sensors = λ x v f q. (shaped.sensors x v f q).words;
    }

-- the words of each list
abbrev AreFilled : List Decl → (tele : List ℕ → List Word) → (lists : List (List ℕ)) → Type 0
AreFilled ds tele [] = Unit {0}
AreFilled ds tele (l ∷ ls) = All (HasWidth (kind_width (list_item ds l))) (tele l) × AreFilled ds tele ls

filled : (g : Sight) (s : Seen) → SeesDeclared g s → (ls : List (List ℕ)) → AreWalked g.decls ls → AreFilled g.decls s.tele ls
filled g s sees [] w = tt
filled g s sees (l ∷ ls) w = (subst (λ n. All (HasWidth n) (s.tele l)) (sym w.0.width) (sees.tele l w.0.decl w.0.found w.0.kind), filled g s sees ls w.1)

item_at : (w : ℕ) (ws : List Word) (k : ℕ) → All (HasWidth w) ws → k < length ws → HasWidth w (or_word (slice_get ws k) (nothing_of 1))
item_at w ws k all lt = subst (λ o. HasWidth w (or_word o (nothing_of 1))) (sym (slice_get-get_or ws k (nothing_of 1) lt)) (All-get_or (HasWidth w) ws k (nothing_of 1) lt all)

turn_words : (ds : List Decl) (tele : List ℕ → List Word) (k : ℕ) (ls : List (List ℕ)) → AreFilled ds tele ls → k < shortest (map tele ls) → AreItems ds ls (turn_items (map tele ls) k)
turn_words ds tele k [] h lt = tt
turn_words ds tele k (l ∷ []) h lt = (item_at _ (tele l) k h.0 lt, tt)
turn_words ds tele k (l ∷ m ∷ ls) h lt = (item_at _ (tele l) k h.0 (omega (arith, lt)), turn_words ds tele k (m ∷ ls) h.1 (omega (arith, lt)))

turns_words : (ds : List Decl) (tele : List ℕ → List Word) (ls : List (List ℕ)) → AreFilled ds tele ls → (n : ℕ) → n ≤ shortest (map tele ls) → All (AreItems ds ls) (first_turns n (map tele ls))
turns_words ds tele ls h zero le = All-nil (AreItems ds ls)
turns_words ds tele ls h (suc n) le =
    All-append (AreItems ds ls) (first_turns n (map tele ls)) (turn_items (map tele ls) n ∷ []) (turns_words ds tele ls h n (omega (arith, le)))
    (All-cons (AreItems ds ls) (turn_items (map tele ls) n) [] (turn_words ds tele n ls h (omega (arith, le))) (All-nil (AreItems ds ls)))

pub turns_see :
    (g : Sight) (h : Hop) (i : Items) (d : Doing Held Held) → SeesDeclared g (seen_by h i d)
    → (p : ℕ) (ns ls : List (List ℕ)) (a : Stmts) → Fine (stmt_sites g (loop p ns ls a))
    → All (λ ws. (c : Doing Held Held) → AreShaped g.decls c → SeesDeclared (within g ns ls) (seen_by h (i ++ named ns ws) c)) (turns_of (map d.tele ls))
turns_see g h i d sees p ns ls a f =
    let is = loop_facts g p ns ls a f in
    All-weaker (AreItems g.decls ls) _ (λ ws words. turn_sees g h i d sees ns ls is ws words) (turns_of (map d.tele ls)) (turns_words g.decls d.tele ls (filled g (seen_by h i d) sees ls is.walked) (shortest (map d.tele ls)) (omega arith))

pub sights_seen : SightsAreSeen
sights_seen = record { blocks = block_sees; turns = turns_see; fits = sees_fits }
