-- Blocks keep what variables hold to their declarations. An assigned or pushed value is cast to the declared width
-- first, and a write never changes how many words there are; so the statement needs no typing.
use Rattle.std.proofs.Common.{◌≡◌, ℕ, zero, suc, ◌<◌, List, [], ◌∷◌, ◌++◌, length, map, Bool, true, false, cond, Option, Some, None, refl, sym, ap, ◌∙◌, subst, All, arith, length-append}
use Rattle.std.proofs.Math.Nat.{mod-lt}
use Rattle.std.proofs.lemmas.Bool.{ltb-true}
use Rattle.std.proofs.lemmas.Slice.Eq.{bytes_eq-Decides}
use Rattle.std.proofs.lemmas.Nat.{pow_pos}
use Rattle.std.proofs.lemmas.List.{length-set}
use Rattle.std.proofs.lemmas.List.Elements.{All-nil, All-cons, All-set, All-append}
use Rattle.std.specs.Prelude.{nat_lt, slice_set}
use Rattle.bit_values.specs.Bits.{Word}
use Rattle.bit_values.specs.Widths.{bit, sound_width, cast_word, holds}
use Rattle.lex_text.specs.Names.{same_text}
use Rattle.indus_tree.specs.Tree.{Shape, one, list, set, dict, Expr, num, flag, Stmt, Stmts, assign, cell, push, choice, loop, reject, report, done, next, Decl, Property}
use Rattle.network_run.specs.PathMeaning.{Reads, Doing, nothing_yet, entry_part, exit_part}
use Rattle.indus_tree.specs.State.{Contents, Hop, Held, lookup, shape_width, held_width, nothing_of, put, put_cell, pushed, set_by_kind, set_cell, push_by_kind, push_item, shape_size}
use Rattle.indus_tree.specs.Start.{start_of_shape, start_of_decl, tele_start, start_word, cells, sensor_of_shape, sensor_of_decl, sensors_start}
use Rattle.indus_tree.specs.Reads.{Items}
use Rattle.indus_tree.specs.Value.{value_of}
use Rattle.indus_tree.specs.Meaning.{seen_by, value_for, index_for, named, turns_of, run_turns, stmt_run, block_run, run_of}
use Rattle.indus_tree.specs.Law.{hop_for, law_of}
use Rattle.indus_tree.specs.Shapes.{HasWidth, IsTeleCount, IsSensorCount, IsHeld, AreShaped}
use Rattle.indus_tree.specs.declared.tree.DeclKind.{DeclKind}
use Rattle.indus_tree.specs.declared.tree.DeclKind.TheVariants.{Tele, Sensor, Header, Control}

-- ---- words

-- a cast word has its width
cast_fits : (w : ℕ) (a : Word) → HasWidth w (cast_word (sound_width w) a)
cast_fits w a = record { width = refl; in_range = mod-lt a.value (pow_pos (sound_width w)) }

nothing_fits : (w : ℕ) → HasWidth w (nothing_of w)
nothing_fits w = record { width = refl; in_range = pow_pos (sound_width w) }

-- ---- lists of words

module _ (IsCount : Shape → ℕ → Type 0) (s : Shape) (w : Word) (fits : HasWidth (shape_width s) w) where
  -- a cell takes another word
  cell_held : (b : Bool) (ws : List Word) (n : ℕ) → IsHeld IsCount s ws → IsHeld IsCount s (cond b (slice_set ws n w) ws)
  cell_held true ws n h = record { words = All-set (HasWidth (shape_width s)) ws n w fits h.words; count = subst (IsCount s) (sym (length-set ws n w)) h.count }
  cell_held false ws n h = h

-- a list takes one word more
more_held : (s : Shape) (w : Word) (ws : List Word) → HasWidth (shape_width s) w → length ws < shape_size s → IsHeld IsTeleCount s ws → IsHeld IsTeleCount s (ws ++ w ∷ [])
more_held (one t) w ws fits lt h = absurd (omega arith)
more_held (list t n) w ws fits lt h =
    record {
      words = All-append (HasWidth (shape_width (list t n))) ws (w ∷ []) h.words (All-cons (HasWidth (shape_width (list t n))) w [] fits (All-nil (HasWidth (shape_width (list t n)))));
      count = omega (arith, length-append ws (w ∷ []), lt);
    }
more_held (set ks) w ws fits lt h = absurd (omega arith)
more_held (dict ks t) w ws fits lt h = absurd (omega arith)

push_held : (b : Bool) (s : Shape) (w : Word) (ws : List Word) → HasWidth (shape_width s) w → nat_lt (length ws) (shape_size s) ≡ b → IsHeld IsTeleCount s ws → IsHeld IsTeleCount s (cond b (ws ++ w ∷ []) ws)
push_held true s w ws fits e h = more_held s w ws fits (ltb-true (length ws) (shape_size s) e) h
push_held false s w ws fits e h = h

-- ---- variables

-- a variable takes other words, which are of its declaration
put_held : (IsCount : Shape → ℕ → Type 0) (ds : List Decl) (k : DeclKind) (f : List ℕ → List Word) (x : List ℕ) (ws : List Word)
    → ((v : Decl) → lookup ds x ≡ Some v → v.kind ≡ k → IsHeld IsCount v.shape ws)
    → ((y : List ℕ) (v : Decl) → lookup ds y ≡ Some v → v.kind ≡ k → IsHeld IsCount v.shape (f y))
    → (y : List ℕ) (v : Decl) → lookup ds y ≡ Some v → v.kind ≡ k → IsHeld IsCount v.shape (put f x ws y)
put_held IsCount ds k f x ws here others y v e q = by_test (same_text x y) refl
  where
    by_test : (b : Bool) → same_text x y ≡ b → IsHeld IsCount v.shape (cond b ws (f y))
    by_test true t = here v (ap (lookup ds) ((bytes_eq-Decides x y).0 t) ∙ e) q
    by_test false t = others y v e q

-- a name has one declaration
held_decl : Decl → Option Decl → Decl
held_decl v None = v
held_decl v (Some u) = u

same_decl : (ds : List Decl) (x : List ℕ) (v u : Decl) → lookup ds x ≡ Some v → lookup ds x ≡ Some u → v ≡ u
unfolding held_decl
same_decl ds x v u e f = ap (held_decl v) (sym e ∙ f)

module _ (ds : List Decl) (x : List ℕ) (w : Word) (d : Doing Held Held) where
  set_kind_keeps : (n : ℕ) (k : DeclKind) (v : Decl) → lookup ds x ≡ Some v → v.kind ≡ k → HasWidth (shape_width v.shape) w → AreShaped ds d → AreShaped ds (set_by_kind k x n w d)
  set_kind_keeps n Tele v e q fits h =
      let held = cell_held IsTeleCount v.shape w fits (nat_lt n (length (d.tele x))) (d.tele x) n (h.tele x v e q) in
      record {
        tele = put_held IsTeleCount ds Tele d.tele x (put_cell (d.tele x) n w) (λ u f r. subst (λ (a : Decl). IsHeld IsTeleCount a.shape (put_cell (d.tele x) n w)) (same_decl ds x v u e f) held) h.tele;
        sensors = h.sensors;
      }
  set_kind_keeps n Sensor v e q fits h =
      let held = cell_held IsSensorCount v.shape w fits (nat_lt n (length (d.sensors x))) (d.sensors x) n (h.sensors x v e q) in
      record {
        tele = h.tele;
        sensors = put_held IsSensorCount ds Sensor d.sensors x (put_cell (d.sensors x) n w) (λ u f r. subst (λ (a : Decl). IsHeld IsSensorCount a.shape (put_cell (d.sensors x) n w)) (same_decl ds x v u e f) held) h.sensors;
      }
  set_kind_keeps n Header v e q fits h = h
  set_kind_keeps n Control v e q fits h = h

  set_keeps : (n : ℕ) (o : Option Decl) → lookup ds x ≡ o → HasWidth (held_width o) w → AreShaped ds d → AreShaped ds (set_cell o x n w d)
  set_keeps n None e fits h = h
  set_keeps n (Some v) e fits h = set_kind_keeps n v.kind v e refl fits h

  push_kind_keeps : (k : DeclKind) (v : Decl) → lookup ds x ≡ Some v → v.kind ≡ k → HasWidth (shape_width v.shape) w → AreShaped ds d → AreShaped ds (push_by_kind k (shape_size v.shape) x w d)
  push_kind_keeps Tele v e q fits h =
      let held = push_held (nat_lt (length (d.tele x)) (shape_size v.shape)) v.shape w (d.tele x) fits refl (h.tele x v e q) in
      record {
        tele = put_held IsTeleCount ds Tele d.tele x (pushed (shape_size v.shape) (d.tele x) w) (λ u f r. subst (λ (a : Decl). IsHeld IsTeleCount a.shape (pushed (shape_size v.shape) (d.tele x) w)) (same_decl ds x v u e f) held) h.tele;
        sensors = h.sensors;
      }
  push_kind_keeps Sensor v e q fits h = h
  push_kind_keeps Header v e q fits h = h
  push_kind_keeps Control v e q fits h = h

  push_keeps : (o : Option Decl) → lookup ds x ≡ o → HasWidth (held_width o) w → AreShaped ds d → AreShaped ds (push_item o x w d)
  push_keeps None e fits h = h
  push_keeps (Some v) e fits h = push_kind_keeps v.kind v e refl fits h

-- ---- blocks

-- of two results one
either_keeps : (ds : List Decl) (b : Bool) (c d : Doing Held Held) → AreShaped ds c → AreShaped ds d → AreShaped ds (cond b c d)
either_keeps ds true c d h k = h
either_keeps ds false c d h k = k

turns_keep : (ds : List Decl) (turn : List Word → Doing Held Held → Doing Held Held) → ((ws : List Word) (d : Doing Held Held) → AreShaped ds d → AreShaped ds (turn ws d)) → (ts : List (List Word)) (d : Doing Held Held) → AreShaped ds d → AreShaped ds (run_turns turn ts d)
turns_keep ds turn keeps [] d h = h
turns_keep ds turn keeps (ws ∷ ts) d h = turns_keep ds turn keeps ts (turn ws d) (keeps ws d h)

module _ (h : Hop) where
  value_fits : (i : Items) (d : Doing Held Held) (x : List ℕ) (e : Expr) → HasWidth (held_width (lookup h.decls x)) (value_for h i d x e)
  value_fits i d x e = cast_fits (held_width (lookup h.decls x)) (value_of (seen_by h i d) e (held_width (lookup h.decls x)))

  mutual
    stmt_keeps : (s : Stmt) (i : Items) (d : Doing Held Held) → AreShaped h.decls d → AreShaped h.decls (stmt_run h i s d)
    stmt_keeps (assign p x e) i d k = set_keeps h.decls x (value_for h i d x e) d 0 (lookup h.decls x) refl (value_fits i d x e) k
    stmt_keeps (cell p x n e) i d k = set_keeps h.decls x (value_for h i d x e) d (index_for h i d n) (lookup h.decls x) refl (value_fits i d x e) k
    stmt_keeps (push p x e) i d k = push_keeps h.decls x (value_for h i d x e) d (lookup h.decls x) refl (value_fits i d x e) k
    stmt_keeps (choice p e a b) i d k = either_keeps h.decls (holds (value_of (seen_by h i d) e 1)) (block_run h i a d) (block_run h i b d) (block_keeps a i d k) (block_keeps b i d k)
    stmt_keeps (loop p xs ls a) i d k = turns_keep h.decls (λ ws. block_run h (i ++ named xs ws) a) (λ ws c l. block_keeps a (i ++ named xs ws) c l) (turns_of (map d.tele ls)) d k
    stmt_keeps (reject p) i d k = record { tele = k.tele; sensors = k.sensors }
    stmt_keeps (report p n es) i d k = record { tele = k.tele; sensors = k.sensors }

    pub block_keeps : (ss : Stmts) (i : Items) (d : Doing Held Held) → AreShaped h.decls d → AreShaped h.decls (block_run h i ss d)
    block_keeps done i d k = k
    block_keeps (next s ss) i d k = block_keeps ss i (stmt_run h i s d) (stmt_keeps s i d k)

  run_keeps : (ss : Stmts) (d : Doing Held Held) → AreShaped h.decls d → AreShaped h.decls (run_of h ss d)
  run_keeps ss d k = block_keeps ss [] d k

-- ---- the parts of a property

-- the flag is set back
anew : (ds : List Decl) (d : Doing Held Held) → AreShaped ds d → AreShaped ds (record d { rejected = false })
anew ds d k = record { tele = k.tele; sensors = k.sensors }

pub entry_keeps : (p : Property) (r : Reads Contents) (tele sensors : Held) → AreShaped p.decls (nothing_yet tele sensors) → AreShaped p.decls (entry_part (law_of p) r tele sensors)
entry_keeps p r tele sensors k =
    let h : Hop = hop_for p.decls r in
    let d : Doing Held Held = nothing_yet tele sensors in
    either_keeps p.decls r.first (run_of h p.init d) d (run_keeps h p.init d k) k

pub exit_keeps : (p : Property) (r : Reads Contents) (tele sensors : Held) → AreShaped p.decls (nothing_yet tele sensors) → AreShaped p.decls (exit_part (law_of p) r tele sensors)
exit_keeps p r tele sensors k =
    let h : Hop = hop_for p.decls r in
    let run : Doing Held Held = run_of h p.tele (nothing_yet tele sensors) in
    let begun : Doing Held Held = record run { rejected = false } in
    let shaped : AreShaped p.decls begun = anew p.decls run (run_keeps h p.tele (nothing_yet tele sensors) k) in
    either_keeps p.decls r.last (run_of h p.check begun) begun (run_keeps h p.check begun shaped) shaped

-- ---- the start

tele_starts : (s : Shape) → IsHeld IsTeleCount s (start_of_shape s)
tele_starts (one t) = record { words = All-cons (HasWidth (shape_width (one t))) (nothing_of (shape_width (one t))) [] (nothing_fits (shape_width (one t))) (All-nil (HasWidth (shape_width (one t)))); count = refl }
tele_starts (list t n) = record { words = All-nil (HasWidth (shape_width (list t n))); count = omega arith }
tele_starts (set ks) = record { words = All-nil (HasWidth (shape_width (set ks))); count = refl }
tele_starts (dict ks t) = record { words = All-nil (HasWidth (shape_width (dict ks t))); count = refl }

start_fits : (o : Option Expr) (w : ℕ) → HasWidth w (start_word o w)
start_fits (Some (num p n)) w = record { width = refl; in_range = mod-lt n.value (pow_pos (sound_width w)) }
start_fits (Some (flag p b)) w = cast_fits w (bit b)
start_fits _ w = nothing_fits w

all_cells : (P : Word → Type 0) (n : ℕ) (w : Word) → P w → All P (cells n w)
all_cells P zero w f = All-nil P
all_cells P (suc n) w f = All-cons P w (cells n w) f (all_cells P n w f)

length-cells : (n : ℕ) (w : Word) → length (cells n w) ≡ n
length-cells zero w = refl
length-cells (suc n) w = let rest = length-cells n w in omega (arith, rest)

sensor_starts : (s : Shape) (w : Word) → HasWidth (shape_width s) w → IsHeld IsSensorCount s (sensor_of_shape s w)
sensor_starts (one t) w fits = record { words = All-cons (HasWidth (shape_width (one t))) w [] fits (All-nil (HasWidth (shape_width (one t)))); count = refl }
sensor_starts (list t n) w fits = record { words = all_cells (HasWidth (shape_width (list t n))) n w fits; count = length-cells n w }
sensor_starts (set ks) w fits = record { words = All-nil (HasWidth (shape_width (set ks))); count = refl }
sensor_starts (dict ks t) w fits = record { words = All-nil (HasWidth (shape_width (dict ks t))); count = refl }

pub starts_shaped : (ds : List Decl) → AreShaped ds (nothing_yet (tele_start ds) (sensors_start ds))
starts_shaped ds =
    record {
      tele = λ x v e q. subst (λ o. IsHeld IsTeleCount v.shape (start_of_decl o)) (sym e) (tele_starts v.shape);
      sensors = λ x v e q. subst (λ o. IsHeld IsSensorCount v.shape (sensor_of_decl o)) (sym e) (sensor_starts v.shape (start_word v.start (shape_width v.shape)) (start_fits v.start (shape_width v.shape)));
    }
