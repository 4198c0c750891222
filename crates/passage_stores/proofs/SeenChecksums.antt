-- What is seen along the controls that verify and compute checksums: they declare nothing, and have calls alone.
use Rattle.std.proofs.Common.{◌≡◌, ℕ, List, [], ◌∷◌, true, false, not, refl, sym, ap, ◌∙◌, subst}
use Rattle.rule_tests.specs.Tests.{IsFine}
use Rattle.p4_tree.specs.Tree.{Stmts, nothing, block, var, assign, choice, return_, exit_, call, done, next, Local, Control, Program}
use Rattle.p4_tree.specs.declared.program.Param.{Param}
use Rattle.p4_meaning.specs.Statements.{Run, no_calls, meaning_of}
use Rattle.p4_meaning.specs.Scope as meaning
use Rattle.p4_meaning.specs.Scope.{is_among, names_in}
use Rattle.p4_meaning.specs.Under as under
use Rattle.p4_meaning.specs.Under.{behind_locals, settings_under}
use Rattle.p4_meaning.specs.Parts.{Parts, parts_of}
use Rattle.p4_scopes.specs.Scopes.{Scope, value, declare}
use Rattle.p4_statement_rules.specs.Forms.{has_calls_alone, takes_any}
use Rattle.p4_statement_rules.specs.Statements.{block_tests}
use Rattle.p4_statement_rules.specs.declared.rule.Part.{Part}
use Rattle.p4_declaration_rules.specs.Parsers.{way_access, with_ways}
use Rattle.p4_declaration_rules.specs.Controls.{locals_tests, after_locals, control_tests, part_in}
use Rattle.p4_rules.specs.Mains.{checksum_wants, structs_of, wanted_tests}
use Rattle.p4_typing_laws.specs.Tied.{IsTied}
use Rattle.p4_typing_laws.specs.Stores.{Fits}
use Rattle.p4_typing_laws.specs.Along.{Along, RunFits, IsFlat}
use Rattle.p4_typing_laws.specs.Runs.{GoesOnToFit}
use Rattle.p4_typing_laws.proofs.SoundPlaces.{ways_sound}
use Rattle.p4_typing_laws.proofs.AlongRuns.{Read, AtNone, Ready, along, base_block}
use Rattle.p4_typing_laws.proofs.KnownScopes.{flat_declare}
use Rattle.p4_typing_laws.proofs.ReadyPlaces.{bare_calls}
use Rattle.passage_stores.specs.FitStores.{IsFit}
use Rattle.passage_stores.specs.SeenStores.{Sees, SeesAt, AlongSettings, LocalsSee, ControlSees}
use Rattle.passage_stores.proofs.DeclaredTypes.{broken}
use Rattle.passage_stores.proofs.KeptStores.{HavePaths, fit_standard, no_calls_fit}
use Rattle.passage_stores.proofs.SeenNames.{KnowsNames, ways_names, control_owns}
use Rattle.passage_stores.proofs.SeenBlocks.{GoesOnFit, both_block, fit_block, IsKnown, seen_of, known_block}
use Rattle.passage_stores.proofs.SeenControls.{locals_first, Words}
use Rattle.passage_stores.proofs.Fronts.{AtControl}
use Rattle.passage_stores.proofs.BegunSights.{IsEnd, checksum_begins}

ways_flat : (qs : List Param) (s : Scope) → IsFlat s → IsFlat (with_ways s qs)
ways_flat [] s f = f
ways_flat (q ∷ qs) s f = ways_flat qs (declare s q.name (value (way_access q.way) q.ty)) (flat_declare s q.name (value (way_access q.way) q.ty) f (λ e x xs. broken (sym e)))

-- where calls alone stand no variable is declared
calls_names : (h : Part) → takes_any h ≡ false → (b : Stmts) (s : Scope) → IsFine (block_tests h s b) → names_in b ≡ []
calls_names h no_more done s f = refl
calls_names h no_more (next (nothing q) rest) s f = calls_names h no_more rest s f.1
calls_names h no_more (next (block q b) rest) s f = broken (ap not (sym no_more) ∙ f.0.0)
calls_names h no_more (next (var q t x e) rest) s f = broken (ap not (sym no_more) ∙ f.0.0)
calls_names h no_more (next (assign q x e) rest) s f = calls_names h no_more rest s f.1
calls_names h no_more (next (choice q e a b) rest) s f = broken (ap not (sym no_more) ∙ f.0.0)
calls_names h no_more (next (return_ q) rest) s f = calls_names h no_more rest s f.1
calls_names h no_more (next (exit_ q) rest) s f = calls_names h no_more rest s f.1
calls_names h no_more (next (call q x args) rest) s f = calls_names h no_more rest s f.1

module _ (pt : Parts) (paths : HavePaths pt.headers) (h : Part) (alone : has_calls_alone h ≡ true) (no_more : takes_any h ≡ false) where
  -- what is seen where these declarations and statements follow
  record AllSeen (s : Scope) (sd : meaning.Scope) (ls : List Local) (b : Stmts) (q : Run) : Type 0 where
    settings : AlongSettings no_calls (λ t td u. Sees pt t td u.store × IsFit pt u.store) s sd ls q
    body : Along no_calls (SeesAt pt (after_locals s ls) (behind_locals sd ls)) (after_locals s ls) (behind_locals sd ls) b (meaning_of no_calls (settings_under sd ls) q).0
    locals : LocalsSee pt (after_locals s ls) (behind_locals sd ls) s sd ls

  no_names : (b : Stmts) (s : Scope) → IsFine (block_tests h s b) → (m : List ℕ) → is_among (names_in b) m ≡ true → ⊥
  no_names b s f m i = (let c : false ≡ true = sym (ap (λ (xs : List (List ℕ)). is_among xs m) (calls_names h no_more b s f)) ∙ i in cc)

  statements_seen : (s : Scope) (sd : meaning.Scope) → IsKnown pt s sd → IsFlat s → (b : Stmts) → IsFine (block_tests h s b) → (q : Run) → Fits s sd q.store → IsFit pt q.store → Along no_calls (SeesAt pt s sd) s sd b q
  statements_seen s sd known flat b f q fits k =
      (let ready : Ready pt no_calls s sd (names_in b) =
      record {
        tied = known.tied;
        sound = known.sound;
        flat = flat;
        places = record { apart = λ x y i j e. absurd (no_names b s f x i); unread = λ x y i j m e. absurd (no_names b s f y m) };
        calls_leave = bare_calls _;
      } in
      let standard = fit_standard pt q.store k in
      let none : AtNone sd (Read s sd) (names_in b) = λ m i j. no_names b s f m i in
      let all = both_block no_calls RunFits (λ t td d v. GoesOnToFit s sd t td d v × IsFit pt v.store) sd b s q (along pt no_calls sd b h s ready f q fits standard)
      (both_block no_calls (GoesOnToFit s sd) (GoesOnFit pt paths no_calls no_calls_fit sd) sd b s q (base_block s sd no_calls (bare_calls (Read s sd)) b s none q fits standard) (fit_block pt paths no_calls no_calls_fit sd b s q k)) in
      known_block pt no_calls sd (λ t td d v. RunFits t td d v × (GoesOnToFit s sd t td d v × IsFit pt v.store)) (SeesAt pt s sd) (λ t d v there w. (seen_of pt t sd there v.store w.0, record { control = w.1.0; program = w.1.1 })) b h s known f q all)

  all_seen : (ls : List Local) (b : Stmts) (s : Scope) (sd : meaning.Scope) → IsFine (locals_tests h s ls) → IsFine (block_tests h (after_locals s ls) b) → IsKnown pt s sd → IsFlat s → (q : Run) → Fits s sd q.store → IsFit pt q.store → AllSeen s sd ls b q
  all_seen [] b s sd f g known flat q fits k = record { settings = tt; body = statements_seen s sd known flat b g q fits k; locals = tt }
  all_seen (l ∷ ls) b s sd f g known flat q fits k = broken (sym alone ∙ f.0.0)

-- ---- verify or compute checksum

module _ (p : Program) (paths : HavePaths (parts_of p).headers) (S : Scope) (end : IsEnd p S) (s : Scope) (sc : meaning.Scope) (c : Control) (at : AtControl (parts_of p) p.main S s sc c) (h : Part) (there : part_in p.main c.name ≡ h)
    (alone : has_calls_alone h ≡ true) (no_more : takes_any h ≡ false) (wanted : IsFine (wanted_tests p.at (structs_of S p) checksum_wants c.params))
  where
    abbrev Begin : meaning.Scope
    Begin = under.in_control 0 1 9 sc c

    fine : IsFine (control_tests h s c)
    fine = subst (λ (g : Part). IsFine (control_tests g s c)) there at.fine

    begin_names : KnowsNames (with_ways s c.params)
    begin_names = ways_names c.params s at.front.names fine.1.0

    begin_known : IsKnown (parts_of p) (with_ways s c.params) Begin
    begin_known =
        record {
          tied = locals_first (IsTied (parts_of p)) c.locals (with_ways s c.params) Begin (at.places 0 1 9);
          sound = ways_sound c.params s at.front.known.sound fine.1.0;
          names = begin_names;
          words = locals_first Words c.locals (with_ways s c.params) Begin (at.words 0 1 9);
          owns = control_owns h Begin c.locals (with_ways s c.params) refl begin_names fine.1.1.0;
        }

    pub checksum_sees : (q : Run) → IsFit (parts_of p) q.store → ControlSees (parts_of p) 0 1 9 s sc c no_calls q
    checksum_sees q k =
        (let all = all_seen (parts_of p) paths h alone no_more c.locals c.apply (with_ways s c.params) Begin fine.1.1.0 fine.1.1.1.0 begin_known (ways_flat c.params s at.front.known.flat) q (checksum_begins p S end s sc at.front q.store k p.at c wanted fine.1.0) k in
        record { settings = all.settings; body = all.body; locals = all.locals })
