-- Controls without exits do what the given controls do.
use Rattle.std.proofs.Common.{◌≡◌, ℕ, List, [], ◌∷◌, ◌++◌, map, Bool, true, false, ◌||◌, cond, None, refl, sym, ap, ap₂, subst}
use Rattle.std.specs.Prelude.{if◌then◌else◌, nat_eq}
use Rattle.std.specs.List.{AllByRecursion}
use Rattle.bit_values.specs.Bits.{Word, word, cast as cast_number}
use Rattle.bit_values.specs.Widths.{bit}
use Rattle.lex_text.specs.Names.{same_text, same_path}
use Rattle.p4_tree.specs.Tree.{Stmts, nothing, block, var, assign, choice, return_, exit_, call, done, next, and_then}
use Rattle.p4_meaning.specs.Standard.{egress_spec, egress_port, standard_paths, metadata_root}
use Rattle.p4_meaning.specs.Parsing.{Field, Header}
use Rattle.p4_meaning.specs.Store.{Store, set_value}
use Rattle.p4_meaning.specs.Statements.{Flow, Go, Return, Exit, Run, Ended, in_store, Calls, start_of, meaning_of}
use Rattle.p4_meaning.specs.Scope.{is_among}
use Rattle.p4_meaning.specs.Actions.{Action}
use Rattle.p4_meaning.specs.Tables.{Table, Tables, calls_in}
use Rattle.p4_meaning.specs.Parts as parts
use Rattle.p4_meaning.specs.Parts.{Parts, whole}
use Rattle.p4_meaning.specs.Pass.{is_dropped, unless_dropped, is_field_of, is_header_field, is_one_path, is_declared_path, is_declared_header, declared, to_egress, entered}
use Rattle.exit_statements.specs.Without.{in_control, Flags, stmts_without}
use Rattle.exit_statements.specs.Free.{Hides, HidesFlags, shows, hides_behind, AreFreeStmts}
use Rattle.exit_statements.specs.Alike.{Alike, Tell, hidden_by}
use Rattle.exit_statements.specs.Laws.{Keeps, is_other}
use Rattle.exit_statements.specs.Actions.{action_without, exits_of, all_but, RunListed}
use Rattle.exit_statements.specs.Controls.{var_names, AreVars, nothing_seen, IsFreeControl, is_long, AreLong, run_of, run_without, Begins, EntersAgree}
use Rattle.exit_statements.proofs.Values.{path_decides, text_decides, not_both, start_alike}
use Rattle.exit_statements.proofs.Guards.{flag_alike, set_there, tell_stays, weaker}
use Rattle.exit_statements.proofs.Runs.{shown_less, shown_flags, list_ends}
use Rattle.exit_statements.proofs.Agreed.{turned, keeps_shown}
use Rattle.exit_statements.proofs.Acted.{set_shows, set_keeps}
use Rattle.exit_statements.proofs.Called.{calls_agree}
use Rattle.exit_statements.proofs.Runs.{others}

-- ---- the variables of a control

-- what is hidden behind its declarations
abbrev hides_after : Hides → Stmts → Hides
hides_after hides done = hides
hides_after hides (next s ss) = hides_after (hides_behind hides s) ss

after_less : (ss : Stmts) (hides : Hides) → AreVars ss → (q : List (List ℕ)) → hides q ≡ false → hides_after hides ss q ≡ false
after_less done hides v q o = o
after_less (next (var p ty x e) ss) hides v q o = after_less ss (shows hides x) v q (shown_less hides x q o)
after_less (next (nothing p) ss) hides v q o = absurd v
after_less (next (block p bs) ss) hides v q o = absurd v
after_less (next (assign p t e) ss) hides v q o = absurd v
after_less (next (choice p e s t) ss) hides v q o = absurd v
after_less (next (return_ p) ss) hides v q o = absurd v
after_less (next (exit_ p) ss) hides v q o = absurd v
after_less (next (call p c args) ss) hides v q o = absurd v

-- runs behind declarations, and what is hidden there
pub record Declared (n : Flags) (own seen : List ℕ → Bool) (hides : Hides) (x y : Run) : Type 0 where
  pub alike : Alike hides x y
  pub tell : Tell n in_control Go y
  pub flags : HidesFlags n hides
  pub keeps : Keeps own seen hides

-- a name is shown, and those that were
shows_it : (x : List ℕ) (hides : Hides) → shows hides x (x ∷ []) ≡ false
shows_it x hides = ap (λ b. cond b false (hides (x ∷ []))) ((path_decides (x ∷ []) (x ∷ [])).1 refl)

module _ (n : Flags) (own : List ℕ → Bool) (c d : Calls) where
  -- both run the declarations, and follow what follows
  declares : (ss body rest : Stmts) (seen : List ℕ → Bool) (hides : Hides) (a b : Run) → AreVars ss → AreFreeStmts n (is_other own) hides (and_then ss body) → Declared n own seen hides a b
      → (P : Ended → Ended → Type 0)
      → ((h : Hides) (x y : Run) → AreFreeStmts n (is_other own) h body → Declared n own (λ z. is_among (var_names ss) z || seen z) h x y → ((q : List (List ℕ)) → hides q ≡ false → h q ≡ false) → P (meaning_of c body x) (meaning_of d rest y))
      → P (meaning_of c (and_then ss body) a) (meaning_of d (and_then ss rest) b)
  declares done body rest seen hides a b v o h P follow = follow hides a b o (record { alike = h.alike; tell = h.tell; flags = h.flags; keeps = record { own_hidden = h.keeps.own_hidden; seen_shown = λ x s. h.keeps.seen_shown x s } }) (λ q u. u)
  declares (next (var p ty x e) ss) body rest seen hides a b v o h P follow =
      let w = start_of ty e b.store in
      let w0 = start_of ty e a.store in
      let same : w ≡ w0 = start_alike hides a b h.alike e ty o.0.1 in
      let y = in_store b (set_value b.store (x ∷ []) w) in
      let one : Alike (shows hides x) (in_store a (set_value a.store (x ∷ []) w0)) y = subst (λ u. Alike (shows hides x) (in_store a (set_value a.store (x ∷ []) w0)) (in_store b (set_value b.store (x ∷ []) u))) (sym same) (set_shows hides x w0 a b h.alike) in
      declares ss body rest (λ z. same_text x z || seen z) (shows hides x) (in_store a (set_value a.store (x ∷ []) w0)) y v o.1
      (record {
        alike = one;
        tell = tell_stays n in_control Go b y (set_keeps n x w b o.0.0.plain) h.tell;
        flags = shown_flags n hides x o.0.0.plain h.flags;
        keeps = record {
          own_hidden = (keeps_shown own seen hides x o.0.0.may_be h.keeps).own_hidden;
          seen_shown = λ z s. sees z (same_text x z) refl s;
        };
      })
      P
      (λ k u z f k' less. follow k u z f (record { alike = k'.alike; tell = k'.tell; flags = k'.flags; keeps = record { own_hidden = k'.keeps.own_hidden; seen_shown = λ t s. k'.keeps.seen_shown t (moved (is_among (var_names ss) t) (same_text x t) (seen t) s) } }) (λ q t. less q (shown_less hides x q t)))
    where
      sees : (z : List ℕ) (b' : Bool) → same_text x z ≡ b' → (b' || seen z) ≡ true → shows hides x (z ∷ []) ≡ false
      sees z true is s = subst (λ t. shows hides x (t ∷ []) ≡ false) ((text_decides x z).0 is) (shows_it x hides)
      sees z false is s = shown_less hides x (z ∷ []) (h.keeps.seen_shown z s)

      moved : (i j k : Bool) → ((j || i) || k) ≡ true → (i || (j || k)) ≡ true
      moved true j k s = refl
      moved false true k s = refl
      moved false false k s = s
  declares (next (nothing p) ss) body rest seen hides a b v o h P follow = absurd v
  declares (next (block p bs) ss) body rest seen hides a b v o h P follow = absurd v
  declares (next (assign p t e) ss) body rest seen hides a b v o h P follow = absurd v
  declares (next (choice p e s t) ss) body rest seen hides a b v o h P follow = absurd v
  declares (next (return_ p) ss) body rest seen hides a b v o h P follow = absurd v
  declares (next (exit_ p) ss) body rest seen hides a b v o h P follow = absurd v
  declares (next (call p f args) ss) body rest seen hides a b v o h P follow = absurd v

-- ---- a control

module _ (n : Flags) (returned : List ℕ → List ℕ) (own : List ℕ → Bool) (as' : List Action) (ts : List Table) (b : parts.Body) (held : Tables) (free : IsFreeControl n returned own as' ts b) (listed : RunListed as' ts held) where
  abbrev hides : Hides
  hides = all_but nothing_seen

  abbrev seen : List ℕ → Bool
  seen = is_among (var_names b.locals)

  body_alike : (h : Hides) (x y : Run) → AreFreeStmts n (is_other own) h b.body → Declared n own (λ z. seen z || nothing_seen z) h x y → ((q : List (List ℕ)) → hides q ≡ false → h q ≡ false)
      → Alike hides (meaning_of (calls_in as' ts held) b.body x).0 (meaning_of (calls_in (map (action_without n.left returned) as') ts held) (stmts_without n (exits_of as' ts) in_control false b.body) y).0
  body_alike h x y o k less =
      let keeps : Keeps own seen h = record { own_hidden = k.keeps.own_hidden; seen_shown = λ z s. k.keeps.seen_shown z (also (seen z) s) } in
      let e = list_ends n in_control (Keeps own seen) (is_other own) (exits_of as' ts) (calls_in as' ts held) (calls_in (map (action_without n.left returned) as') ts held)
      (calls_agree n returned own seen as' ts held free.actions free.tables listed) (others n.left n.returned (turned n free.two)) (λ hs z u w. keeps_shown own seen hs z u w)
      b.body false h x y k.flags keeps o k.alike k.tell in
      weaker (hidden_by h h (meaning_of (calls_in as' ts held) b.body x).1) hides _ _ (λ q u. all_of (meaning_of (calls_in as' ts held) b.body x).1 q (less q u)) e.alike
    where
      also : (t : Bool) → t ≡ true → (t || false) ≡ true
      also true s = refl
      also false s = s

      all_of : (f : Flow) (q : List (List ℕ)) → h q ≡ false → hidden_by h h f q ≡ false
      all_of Go q u = u
      all_of Return q u = u
      all_of Exit q u = u

  pub control_alike : (flagged : Bool) (r : Run) → Begins flagged n r.store → Alike hides (run_of as' ts held b r) (run_without flagged n returned as' ts held b r)
  control_alike flagged r begins = go flagged begins
    where
      from : (first : Run) → Declared n own nothing_seen hides r first
          → Alike hides (run_of as' ts held b r) (meaning_of (calls_in (map (action_without n.left returned) as') ts held) (and_then b.locals (stmts_without n (exits_of as' ts) in_control false b.body)) first).0
      from first start =
          declares n own (calls_in as' ts held) (calls_in (map (action_without n.left returned) as') ts held) b.locals b.body (stmts_without n (exits_of as' ts) in_control false b.body) nothing_seen hides r first free.vars free.free start (λ x y. Alike hides x.0 y.0) (λ h x y o k less. body_alike h x y o k less)

      same : r.store.headers [] ≡ None → Alike hides r r
      same plain = record { values = λ q u. refl; headers = refl; plain = plain; cells = refl; digests = refl }

      go : (flagged : Bool) → Begins flagged n r.store → Alike hides (run_of as' ts held b r) (run_without flagged n returned as' ts held b r)
      go true begins =
          from (in_store r (set_value r.store (n.left ∷ []) (bit false)))
          (record {
            alike = flag_alike hides r r n.left (bit false) refl (same begins.plain);
            tell = record { guard = set_there n.left (bit false) r; left = set_there n.left (bit false) r };
            flags = record { left = refl; returned = refl; long = λ x y rest. refl; empty = refl };
            keeps = record { own_hidden = λ x u. refl; seen_shown = λ x u. absurd (cc u) };
          })
      go false begins =
          from r
          (record {
            alike = same begins.plain;
            tell = record { guard = begins.unset refl; left = begins.unset refl };
            flags = record { left = refl; returned = refl; long = λ x y rest. refl; empty = refl };
            keeps = record { own_hidden = λ x u. refl; seen_shown = λ x u. absurd (cc u) };
          })

-- ---- the halves

one_name : (p : List (List ℕ)) (x : List ℕ) → is_long p ≡ true → same_path p (x ∷ []) ≡ false
one_name p x l = go (same_path p (x ∷ [])) refl
  where
    go : (b : Bool) → same_path p (x ∷ []) ≡ b → b ≡ false
    go true e = not_both (is_long p) l (ap is_long ((path_decides p (x ∷ [])).0 e))
    go false e = refl

no_field : (above : List (List ℕ)) (fs : List Field) (x : List ℕ) → ((y : List ℕ) → is_long (above ++ y ∷ []) ≡ true) → is_field_of above fs (x ∷ []) ≡ false
no_field above [] x l = refl
no_field above (f ∷ fs) x l = ap₂ (λ (a b : Bool). a || b) (one_name (above ++ f.name ∷ []) x (l f.name)) (no_field above fs x l)

pub longer : (p : List (List ℕ)) (y : List ℕ) → is_long p ≡ true → is_long (p ++ y ∷ []) ≡ true
longer [] y l = absurd (cc l)
longer (a ∷ []) y l = absurd (cc l)
longer (a ∷ b ∷ rest) y l = refl

no_header_field : (hs : List Header) (x : List ℕ) → AreLong hs → is_header_field hs (x ∷ []) ≡ false
no_header_field [] x l = refl
no_header_field (h ∷ hs) x l = ap₂ (λ (a b : Bool). a || b) (no_field h.path h.fields x (λ y. longer h.path y l.0)) (no_header_field hs x l.1)

no_standard : (x : List ℕ) → is_one_path standard_paths (x ∷ []) ≡ false
no_standard x = go standard_paths (refl, (refl, (refl, (refl, (refl, (refl, tt))))))
  where
    go : (ps : List (List (List ℕ))) → AllByRecursion (λ p. is_long p ≡ true) ps → is_one_path ps (x ∷ []) ≡ false
    go [] l = refl
    go (p ∷ ps) l = ap₂ (λ (a b : Bool). a || b) (one_name p x l.0) (go ps l.1)

-- what the program declares is no variable
no_variable : (p : Parts) → AreLong p.headers → (q : List (List ℕ)) → is_declared_path p q ≡ true → all_but nothing_seen q ≡ false
no_variable p l [] d = refl
no_variable p l (x ∷ []) d =
    let none : is_declared_path p (x ∷ []) ≡ false = ap₂ (λ (a b : Bool). a || b) (no_standard x) (ap₂ (λ (a b : Bool). a || b) (no_field (metadata_root ∷ []) p.metadata x (λ y. refl)) (no_header_field p.headers x l)) in
    not_both (is_declared_path p (x ∷ [])) d none
no_variable p l (x ∷ y ∷ rest) d = refl

same_declared : (p : Parts) → AreLong p.headers → (a b : Run) → Alike (all_but nothing_seen) a b → declared p b.store ≡ declared p a.store
same_declared p l a b h = λ i. record { values = λ q. values q i; headers = λ q. if is_declared_header p.headers q then h.headers i q else None }
  where
    values : (q : List (List ℕ)) → (if is_declared_path p q then b.store.values q else word 1 0) ≡ (if is_declared_path p q then a.store.values q else word 1 0)
    values q = go (is_declared_path p q) refl
      where
        go : (t : Bool) → is_declared_path p q ≡ t → (if t then b.store.values q else word 1 0) ≡ (if t then a.store.values q else word 1 0)
        go true e = h.values q (no_variable p l q e)
        go false e = refl

same_entered : (p : Parts) (before : Store) (rest : List ℕ) (a b : Run) → AreLong p.headers → Alike (all_but nothing_seen) a b → entered p before rest b ≡ entered p before rest a
same_entered p before rest a b l h =
    let drop : is_dropped b.store ≡ is_dropped a.store = ap (λ (w : Word). nat_eq w.value 511) (h.values egress_spec refl) in
    let store : to_egress p b.store ≡ to_egress p a.store = ap₂ (λ (s : Store) (w : Word). set_value (set_value s egress_port (word 9 (cast_number 9 w.value))) egress_spec (word 9 0)) (same_declared p l a b h) (h.values egress_spec refl) in
    λ i. record { registers = h.cells i; digests = h.digests i; entry_state = before; queued = unless_dropped (drop i) (record { store = store i; rest = rest }) }

pub enters_agree : EntersAgree
enters_agree flagged n returned own p b held free listed l before rest r begins = same_entered p before rest _ _ l (control_alike n returned own p.actions p.tables b held free listed flagged r begins)
