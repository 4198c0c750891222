-- A flat block does what the block does.
use Rattle.std.proofs.Common.{◌≡◌, ◌⊎◌, inl, inr, ⊎_elim, ℕ, zero, suc, ◌+◌, ◌<◌, ◌≤◌, ◌^◌, ◌%◌, List, [], ◌∷◌, ◌++◌, length, map, Bool, true, false, cond, Option, Some, None, refl, sym, ap, ap₂, ◌∙◌, arith, subst, nat_lt, length-append}
use Rattle.std.proofs.Math.Nat.{mod-mod}
use Rattle.std.proofs.lemmas.Bool.{cases_lt, lt-ltb, le-ltb, ltb-true}
use Rattle.bit_values.specs.Bits.{Word, word}
use Rattle.bit_values.specs.Widths.{bit, holds, either_width, sound_width, cast_word}
use Rattle.network_run.specs.PathMeaning.{Doing, Report}
use Rattle.indus_tree.specs.Tree.{Shape, one, list, set, dict, Decl, Expr, Exprs, read, binary, Stmt, Stmts, assign, cell, push, choice, loop, reject, report, done, next, block_from}
use Rattle.indus_tree.specs.State.{Hop, Held, lookup, width_of, shape_width, held_width, shape_size, put, put_cell, pushed, set_by_kind, set_cell, push_by_kind, push_item}
use Rattle.indus_tree.specs.Reads.{Items, Seen}
use Rattle.indus_tree.specs.Value.{own_width, value_of, values_of}
use Rattle.indus_tree.specs.Meaning.{seen_by, value_for, index_for, reported, stmt_run, block_run}
use Rattle.indus_tree.specs.Hops.{variable_number}
use Rattle.indus_tree.specs.Shapes.{AreShaped}
use Rattle.indus_tree.specs.declared.tree.DeclKind.{DeclKind}
use Rattle.indus_tree.specs.declared.tree.DeclKind.TheVariants.{Tele, Sensor, Header, Control}
use Rattle.indus_tree.specs.declared.tree.Op.TheVariants.{Less}
use Rattle.indus_tree.specs.declared.tree.Ty.{Ty}
use Rattle.indus_tree.proofs.ShapesLemmas.{block_keeps}
use Rattle.indus_scopes.specs.Scopes.{Around, Sight, role_of}
use Rattle.lower_lists.specs.Names.{item_name, count_name}
use Rattle.indus_types.specs.Sums.{smallest}
use Rattle.lower_lists.specs.declared.place.Bound.{Bound}
use Rattle.lower_lists.specs.declared.place.ListPlace.{ListPlace}
use Rattle.lower_lists.specs.Flat.{list_of, list_number, target, name_in, name_of_kind, byte, flat_expr, flat_exprs, flat_push, push_to, pushed as pushed_code, turns, flat_stmt, flat_block}
use Rattle.flat_laws.specs.Numbered.{numbered, numbered_hop, Holds, HoldsList, Numbers}
use Rattle.flat_laws.proofs.NameLemmas.{slot}
use Rattle.flat_laws.proofs.Writes.{sees, put_same, put_other, run-append}
use Rattle.flat_laws.proofs.States.{has_number, number_small, written, scalar_written, sensor_written}
use Rattle.flat_laws.proofs.Pushes.{IsPushed, pushed_run, tested_less}
use Rattle.flat_laws.proofs.Suits.{IsKnown, StmtSuits, BlockSuits}
use Rattle.flat_laws.proofs.Roles.{IsList, IsKept, counted, Writable, in_packet, in_switch, written_name, IsSensor, cell_name}
use Rattle.flat_laws.proofs.Values.{IsReady, Stands, name_other, kept_found, scalar_found, count_found, item_found, list_place, list_holds, held_list, flat_value, flat_width, flat_values}
use Rattle.flat_laws.proofs.Items.{stands_still}
use Rattle.flat_laws.proofs.Keeps.{stmt_leaves}
use Rattle.flat_laws.proofs.Loops.{loop_run}

sensor_not : (k : DeclKind) → k ≡ Sensor → k ≡ Tele → ⊥
sensor_not k e h = let c : Sensor ≡ Tele = sym e ∙ h in cc

numbers_if : (ds : List Decl) (b : Bool) (s t f h : Doing Held Held) → (b ≡ true → Numbers ds s f) → (b ≡ false → Numbers ds t h) → Numbers ds (cond b s t) (cond b f h)
numbers_if ds true s t f h x y = x refl
numbers_if ds false s t f h x y = y refl

module _ (g : Sight) (r : IsReady g.decls) (h0 : Hop) where
  abbrev hop : Hop
  hop = record h0 { decls = g.decls }

  abbrev ds : List Decl
  ds = g.decls

  abbrev pub flat_run : List Stmt → Doing Held Held → Doing Held Held
  flat_run ss f = block_run (numbered_hop hop) [] (block_from ss) f

  abbrev inside : List Around → Sight
  inside ls = record g { loops = ls }

  module _ (ls : List Around) (items : Items) (bs : List Bound) (s f : Doing Held Held) (n : Numbers ds s f) (k : AreShaped ds s) (st : Stands ds ls items bs s.tele) where
    abbrev F : Seen
    F = sees hop f

    abbrev S : Seen
    S = seen_by hop items s

    -- ---- assignments

    assigned : (p : ℕ) (x : List ℕ) (e : Expr) → ((w : ℕ) → value_of F (flat_expr ds bs e) w ≡ value_of S e w) → Writable ds x
        → Numbers ds (stmt_run hop items (assign p x e) s) (stmt_run (numbered_hop hop) [] (assign p (target ds x) (flat_expr ds bs e)) f)
    assigned p x e same (in_packet d t found kind shape) =
        let m = has_number ds 0 x d found in
        let v : ℕ = m.0 in
        let w : Word = cast_word (sound_width (width_of t)) (value_of S e (width_of t)) in
        let named : target ds x ≡ item_name v 0 = ap₂ (λ o q. name_in o q x) m.1 found ∙ ap (λ c. name_of_kind c v x) kind in
        let source : stmt_run hop items (assign p x e) s ≡ record s { tele = put s.tele x (put_cell (s.tele x) 0 w) } =
        ap (λ (o : Option Decl). set_cell o x 0 (cast_word (sound_width (held_width o)) (value_of S e (held_width o))) s) found
        ∙ ap (λ c. set_by_kind c x 0 (cast_word (sound_width (shape_width d.shape)) (value_of S e (shape_width d.shape))) s) kind
        ∙ ap (λ (q : Shape). record s { tele = put s.tele x (put_cell (s.tele x) 0 (cast_word (sound_width (shape_width q)) (value_of S e (shape_width q)))) }) shape in
        let held : f.tele (item_name v 0) ≡ s.tele x = subst (λ (z : Shape). Holds v z (s.tele x) f.tele) shape (n.tele x d v found m.1 kind) in
        let flat : stmt_run (numbered_hop hop) [] (assign p (target ds x) (flat_expr ds bs e)) f ≡ record f { tele = put f.tele (item_name v 0) (put_cell (s.tele x) 0 w) } =
        ap (λ y. stmt_run (numbered_hop hop) [] (assign p y (flat_expr ds bs e)) f) named
        ∙ ap (λ (o : Option Decl). set_cell o (item_name v 0) 0 (cast_word (sound_width (held_width o)) (value_of F (flat_expr ds bs e) (held_width o))) f) (scalar_found g r h0 x d t v found kind shape m.1)
        ∙ ap₂ (λ (ws : List Word) (c : Word). record f { tele = put f.tele (item_name v 0) (put_cell ws 0 (cast_word (sound_width (width_of t)) c)) }) held (same (width_of t)) in
        subst (λ (a : Doing Held Held). Numbers ds a (stmt_run (numbered_hop hop) [] (assign p (target ds x) (flat_expr ds bs e)) f)) (sym source)
        (subst (λ (a : Doing Held Held). Numbers ds (record s { tele = put s.tele x (put_cell (s.tele x) 0 w) }) a) (sym flat)
        (scalar_written ds r.few x d v found m.1 s f (put_cell (s.tele x) 0 w) n t shape))
    assigned p x e same (in_switch d found kind) =
        let w : Word = cast_word (sound_width (held_width (lookup ds x))) (value_of S e (held_width (lookup ds x))) in
        let apart : d.kind ≡ Tele → ⊥ = sensor_not d.kind kind in
        let named : target ds x ≡ x = ap (λ q. name_in (variable_number ds x) q x) found ∙ name_other (variable_number ds x) d x apart in
        let source : stmt_run hop items (assign p x e) s ≡ record s { sensors = put s.sensors x (put_cell (s.sensors x) 0 w) } =
        ap (λ (o : Option Decl). set_cell o x 0 w s) found ∙ ap (λ c. set_by_kind c x 0 w s) kind in
        let flat : stmt_run (numbered_hop hop) [] (assign p (target ds x) (flat_expr ds bs e)) f ≡ record f { sensors = put f.sensors x (put_cell (f.sensors x) 0 w) } =
        ap (λ y. stmt_run (numbered_hop hop) [] (assign p y (flat_expr ds bs e)) f) named
        ∙ ap (λ (o : Option Decl). set_cell o x 0 (cast_word (sound_width (held_width o)) (value_of F (flat_expr ds bs e) (held_width o))) f) (kept_found g r h0 x (record { decl = d; found = found; kind = apart }))
        ∙ ap (λ (c : Word). set_cell (lookup ds x) x 0 (cast_word (sound_width (held_width (lookup ds x))) c) f) (same (held_width (lookup ds x)))
        ∙ ap (λ (o : Option Decl). set_cell o x 0 w f) found ∙ ap (λ c. set_by_kind c x 0 w f) kind in
        subst (λ (a : Doing Held Held). Numbers ds a (stmt_run (numbered_hop hop) [] (assign p (target ds x) (flat_expr ds bs e)) f)) (sym source)
        (subst (λ (a : Doing Held Held). Numbers ds (record s { sensors = put s.sensors x (put_cell (s.sensors x) 0 w) }) a) (sym flat)
        (sensor_written ds s f x 0 w n))

    celled : (p : ℕ) (x : List ℕ) (i e : Expr) → ((w : ℕ) → value_of F (flat_expr ds bs e) w ≡ value_of S e w) → ((w : ℕ) → value_of F (flat_expr ds bs i) w ≡ value_of S i w)
        → own_width F (flat_expr ds bs i) ≡ own_width S i → IsSensor ds x
        → Numbers ds (stmt_run hop items (cell p x i e) s) (stmt_run (numbered_hop hop) [] (cell p x (flat_expr ds bs i) (flat_expr ds bs e)) f)
    celled p x i e same same_index width c =
        let w : Word = cast_word (sound_width (held_width (lookup ds x))) (value_of S e (held_width (lookup ds x))) in
        let m : ℕ = index_for hop items s i in
        let apart : c.decl.kind ≡ Tele → ⊥ = sensor_not c.decl.kind c.kind in
        let at_same : index_for (numbered_hop hop) [] f (flat_expr ds bs i) ≡ m =
        ap (λ v. (value_of F (flat_expr ds bs i) (either_width v 128)).value) width
        ∙ ap (λ (a : Word). a.value) (same_index (either_width (own_width S i) 128)) in
        let source : stmt_run hop items (cell p x i e) s ≡ record s { sensors = put s.sensors x (put_cell (s.sensors x) m w) } =
        ap (λ (o : Option Decl). set_cell o x m w s) c.found ∙ ap (λ a. set_by_kind a x m w s) c.kind in
        let flat : stmt_run (numbered_hop hop) [] (cell p x (flat_expr ds bs i) (flat_expr ds bs e)) f ≡ record f { sensors = put f.sensors x (put_cell (f.sensors x) m w) } =
        ap (λ (o : Option Decl). set_cell o x (index_for (numbered_hop hop) [] f (flat_expr ds bs i)) (cast_word (sound_width (held_width o)) (value_of F (flat_expr ds bs e) (held_width o))) f) (kept_found g r h0 x (record { decl = c.decl; found = c.found; kind = apart }))
        ∙ ap₂ (λ j (a : Word). set_cell (lookup ds x) x j (cast_word (sound_width (held_width (lookup ds x))) a) f) at_same (same (held_width (lookup ds x)))
        ∙ ap (λ (o : Option Decl). set_cell o x m w f) c.found ∙ ap (λ a. set_by_kind a x m w f) c.kind in
        subst (λ (a : Doing Held Held). Numbers ds a (stmt_run (numbered_hop hop) [] (cell p x (flat_expr ds bs i) (flat_expr ds bs e)) f)) (sym source)
        (subst (λ (a : Doing Held Held). Numbers ds (record s { sensors = put s.sensors x (put_cell (s.sensors x) m w) }) a) (sym flat)
        (sensor_written ds s f x m w n))

    -- ---- pushes

    -- nothing changes where a variable takes what it has
    taken_again : (x : List ℕ) (d : Decl) (v : ℕ) → lookup ds x ≡ Some d → variable_number ds x ≡ Some v → d.kind ≡ Tele → (ws : List Word) → ws ≡ s.tele x → Numbers ds (record s { tele = put s.tele x ws }) f
    taken_again x d v found number kind ws e =
        written ds r.few x d v found number s (record s { tele = put s.tele x ws }) f f n
        (λ y q. put_other s.tele x ws y q) (λ u b lu ne. refl)
        (λ q. subst (λ (vs : List Word). Holds v d.shape vs f.tele) (sym (put_same s.tele x ws ∙ e)) (n.tele x d v found number kind))
        n.sensors n.rejected n.reports

    pushed_to : (p : ℕ) (x : List ℕ) (l : IsList ds x) (v : ℕ) → variable_number ds x ≡ Some v → (e' : Expr) (w : Word) → cast_word (sound_width (width_of l.item)) (value_of F e' (width_of l.item)) ≡ w
        → (size : ℕ) → size ≡ l.size → Numbers ds (record s { tele = put s.tele x (pushed size (s.tele x) w) }) (flat_run (push_to p e' v size l.item) f)
    pushed_to p x l v number e' w is zero z =
        taken_again x l.decl v l.found number l.kind (pushed 0 (s.tele x) w) (ap (λ b. cond b (s.tele x ++ w ∷ []) (s.tele x)) (le-ltb (length (s.tele x)) 0 (omega arith)))
    pushed_to p x l v number e' w is (suc m) z =
        let ws : List Word = s.tele x in
        let small : l.size ≤ 255 = r.small x l.decl l.item l.size l.found l.shape in
        let short : length ws ≤ l.size = (held_list g r h0 ls items bs s f n k st x l).count in
        let lv : v < 2 ^ 32 = number_small ds x v r.few number in
        let held : HoldsList v l.item (suc m) ws f.tele = subst (λ c. HoldsList v l.item c ws f.tele) (sym z) (list_holds g r h0 ls items bs s f n k st x l v number) in
        let after : Doing Held Held = flat_run (pushed_code p e' v m l.item) f in
        let counted_is = count_found g r h0 x l v number in
        let placed : (i : ℕ) → i < suc m → _ = λ i lt. item_found g r h0 x l v number i (omega arith) in
        let fits : cast_word (sound_width (width_of l.item)) w ≡ w =
        ap (cast_word (sound_width (width_of l.item))) (sym is)
        ∙ ap (word (sound_width (width_of l.item))) (mod-mod (value_of F e' (width_of l.item)).value (2 ^ sound_width (width_of l.item)))
        ∙ is in
        let go : cond (nat_lt (length ws) (suc m)) after f ≡ flat_run (push_to p e' v (suc m) l.item) f =
        sym (tested_less hop l.decl.at v l.item m lv (omega arith) counted_is placed p (length ws) (suc m) f held.count (omega arith) (omega arith) after f) in
        let full : (b : Bool) → nat_lt (length ws) (suc m) ≡ b → Numbers ds (record s { tele = put s.tele x (cond b (ws ++ w ∷ []) ws) }) (cond b after f) = λ b.
        elim b as (λ c. nat_lt (length ws) (suc m) ≡ c → Numbers ds (record s { tele = put s.tele x (cond c (ws ++ w ∷ []) ws) }) (cond c after f)) [
          | true ↦ λ t.
              let room : length ws ≤ m = (let lt : length ws < suc m = ltb-true (length ws) (suc m) t in omega arith) in
              let after_is : IsPushed hop l.decl.at v l.item m lv (omega arith) counted_is placed (ws ++ w ∷ []) f after =
              pushed_run hop l.decl.at v l.item m lv (omega arith) counted_is placed p ws w fits room f held e' is in
              written ds r.few x l.decl v l.found number s (record s { tele = put s.tele x (ws ++ w ∷ []) }) f after n
              (λ y q. put_other s.tele x (ws ++ w ∷ []) y q)
              after_is.others
              (λ q. subst (λ (vs : List Word). Holds v l.decl.shape vs after.tele) (sym (put_same s.tele x (ws ++ w ∷ [])))
              (subst (λ (h : Shape). Holds v h (ws ++ w ∷ []) after.tele) (sym l.shape)
              (subst (λ c. HoldsList v l.item c (ws ++ w ∷ []) after.tele) z after_is.held)))
              (after_is.sensors ∙ n.sensors) (after_is.rejected ∙ n.rejected) (after_is.reports ∙ n.reports)
          | false ↦ λ t. taken_again x l.decl v l.found number l.kind ws refl
        ] in
        subst (λ (t : Doing Held Held). Numbers ds (record s { tele = put s.tele x (pushed (suc m) ws w) }) t) go (full (nat_lt (length ws) (suc m)) refl)

    pushes : (p : ℕ) (x : List ℕ) (e : Expr) → ((w : ℕ) → value_of F (flat_expr ds bs e) w ≡ value_of S e w) → IsList ds x
        → Numbers ds (stmt_run hop items (push p x e) s) (flat_run (flat_push p (flat_expr ds bs e) (list_of ds x)) f)
    pushes p x e same l =
        let m = has_number ds 0 x l.decl l.found in
        let v : ℕ = m.0 in
        let w : Word = cast_word (sound_width (width_of l.item)) (value_of S e (width_of l.item)) in
        let source : stmt_run hop items (push p x e) s ≡ record s { tele = put s.tele x (pushed l.size (s.tele x) w) } =
        ap (λ (o : Option Decl). push_item o x (cast_word (sound_width (held_width o)) (value_of S e (held_width o))) s) l.found
        ∙ ap (λ c. push_by_kind c (shape_size l.decl.shape) x (cast_word (sound_width (shape_width l.decl.shape)) (value_of S e (shape_width l.decl.shape))) s) l.kind
        ∙ ap (λ (q : Shape). record s { tele = put s.tele x (pushed (shape_size q) (s.tele x) (cast_word (sound_width (shape_width q)) (value_of S e (shape_width q)))) }) l.shape in
        let flat : flat_run (flat_push p (flat_expr ds bs e) (list_of ds x)) f ≡ flat_run (push_to p (flat_expr ds bs e) v l.size l.item) f =
        ap (λ o. flat_run (flat_push p (flat_expr ds bs e) o) f) (list_place g r h0 ls items bs s f n k st x l v m.1) in
        subst (λ (a : Doing Held Held). Numbers ds a (flat_run (flat_push p (flat_expr ds bs e) (list_of ds x)) f)) (sym source)
        (subst (λ (a : Doing Held Held). Numbers ds (record s { tele = put s.tele x (pushed l.size (s.tele x) w) }) a) (sym flat)
        (pushed_to p x l v m.1 (flat_expr ds bs e) w (ap (cast_word (sound_width (width_of l.item))) (same (width_of l.item))) l.size refl))

  -- ---- statements

  mutual
    pub flat_stmt_run : (c : Stmt) (ls : List Around) (items : Items) (bs : List Bound) (s f : Doing Held Held) → StmtSuits c (inside ls) → Numbers ds s f → AreShaped ds s → Stands ds ls items bs s.tele → Numbers ds (stmt_run hop items c s) (flat_run (flat_stmt ds c bs) f)
    flat_stmt_run (assign p x e) ls items bs s f u n k st =
        assigned ls items bs s f n k st p x e (λ w. flat_value g r h0 ls items bs s f n k st e w u.3) (written_name (inside ls) x u.0 u.1 u.2)
    flat_stmt_run (cell p x i e) ls items bs s f u n k st =
        celled ls items bs s f n k st p x i e (λ w. flat_value g r h0 ls items bs s f n k st e w u.4) (λ w. flat_value g r h0 ls items bs s f n k st i w u.3) (flat_width g r h0 ls items bs s f n k st i u.3) (cell_name (inside ls) x r.shapely u.0 u.1 u.2)
    flat_stmt_run (push p x e) ls items bs s f u n k st =
        pushes ls items bs s f n k st p x e (λ w. flat_value g r h0 ls items bs s f n k st e w u.3) (counted (inside ls) x u.0 u.1)
    flat_stmt_run (choice p t a b) ls items bs s f u n k st =
        let x : Doing Held Held = flat_run (flat_block ds a bs) f in
        let y : Doing Held Held = flat_run (flat_block ds b bs) f in
        let w : Word = value_of (seen_by hop items s) t 1 in
        subst (λ (v : Word). Numbers ds (cond (holds w) (block_run hop items a s) (block_run hop items b s)) (cond (holds v) x y)) (sym (flat_value g r h0 ls items bs s f n k st t 1 u.0))
        (numbers_if ds (holds w) (block_run hop items a s) (block_run hop items b s) x y (λ q. flat_block_run a ls items bs s f u.1 n k st) (λ q. flat_block_run b ls items bs s f u.2 n k st))
    flat_stmt_run (loop p ns lists a) ls items bs s f u n k st =
        loop_run g r h0 p a ns lists ls items bs s f u.0 u.1 u.2 n k st u.3
        (λ is cs t v nn kk ss. flat_block_run a ((record { names = ns; lists = lists }) ∷ ls) is cs t v u.3 nn kk ss)
    flat_stmt_run (reject p) ls items bs s f u n k st = record { tele = n.tele; sensors = n.sensors; rejected = refl; reports = n.reports }
    flat_stmt_run (report p m es) ls items bs s f u n k st =
        record {
          tele = n.tele;
          sensors = n.sensors;
          rejected = n.rejected;
          reports = ap₂ (λ (rs : List Report) (ws : List Word). rs ++ (record { number = m; values = ws }) ∷ []) n.reports (flat_values g r h0 ls items bs s f n k st es u);
        }

    pub flat_block_run : (c : Stmts) (ls : List Around) (items : Items) (bs : List Bound) (s f : Doing Held Held) → BlockSuits c (inside ls) → Numbers ds s f → AreShaped ds s → Stands ds ls items bs s.tele → Numbers ds (block_run hop items c s) (flat_run (flat_block ds c bs) f)
    flat_block_run done ls items bs s f u n k st = n
    flat_block_run (next c rest) ls items bs s f u n k st =
        subst (λ (t : Doing Held Held). Numbers ds (block_run hop items rest (stmt_run hop items c s)) t) (sym (run-append (numbered_hop hop) (flat_stmt ds c bs) (flat_block ds rest bs) f))
        (flat_block_run rest ls items bs (stmt_run hop items c s) (flat_run (flat_stmt ds c bs) f) u.1
        (flat_stmt_run c ls items bs s f u.0 n k st)
        (block_keeps hop (next c done) items s k)
        (stands_still ds ls items bs s.tele (stmt_run hop items c s).tele (λ l is w. stmt_leaves g r h0 l is c ls u.0 w items s) st))
