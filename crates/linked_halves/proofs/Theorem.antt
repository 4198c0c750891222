-- The laws of the two halves, and the linkage that follows from them, for any monitor.
use Rattle.std.proofs.Common.{◌≡◌, ℕ, ◌<◌, List, [], ◌∷◌, ◌++◌, map, Bool, true, false, not, ◌&&◌, ◌||◌, ◌==◌, cond, Option, Some, None, refl, ap, ◌∙◌, arith}
use Rattle.std.specs.List.{AllByRecursion}
use Rattle.std.specs.Prelude.{if◌then◌else◌, is_none, is_some, nat_eq, All}
use Rattle.std.proofs.lemmas.List.Elements.{All-head, All-tail, All-cons, All-nil}
use Rattle.bit_values.specs.Bits.{Word}
use Rattle.p4_meaning.specs.Parts.{Cells, Parts}
use Rattle.p4_meaning.specs.Tables.{Tables}
use Rattle.p4_meaning.specs.Pass.{Kept, parts_enter, zero_cells, start_cells, kept_before}
use Rattle.network_run.specs.Network.{Link, Wiring, far_end_among, at_edge, IsLinkOf, port_count}
use Rattle.network_run.specs.PathMeaning.{reads_at, entry_part}
use Rattle.linkage.specs.HalvesLaws.{carried, EnterAgrees}
use Rattle.linkage.proofs.Runs.{linkage}
use Rattle.switch_machines.specs.Programs.{view_of, entered_of, cells_of, ports_at}
use Rattle.own_code.specs.Regions.{is_mine}
use Rattle.own_code.proofs.Apart.{apart_names}
use Rattle.monitor_laws.specs.Names.{rejects_register, is_sensor}
use Rattle.monitor_laws.specs.Monitor.{Monitor, telemetry_of}
use Rattle.monitor_laws.specs.MonitorLaws.{MonitorLaws}
use Rattle.monitor_laws.proofs.Paths.{none_named, sensor_mine}
use Rattle.linked_halves.specs.LinkedParts.{Declarations, linked_parts}
use Rattle.linked_halves.specs.Held.{is_in, OwnEntries, KeptBy, HeldBy}
use Rattle.linked_halves.specs.Given.{registers_of, IsHost, forwarding_machine, linked_machine, KeepsHalves, IsLinkage}
use Rattle.linked_halves.proofs.EnterParse.{bytes_sized}
use Rattle.linked_halves.proofs.Enter.{enter_edge, enter_link}
use Rattle.linked_halves.proofs.Leave.{leaves_agree}

-- a port of a switch has a link exactly where it is listed
some_of : (b : Bool) (X : ℕ × ℕ) (F : Option (ℕ × ℕ)) (r : Bool) → r ≡ is_some F → (b || r) ≡ is_some (if b then Some X else F)
some_of true X F r h = refl
some_of false X F r h = h

listed_each : (port : ℕ) (A B : ℕ × ℕ) (p q : ℕ) (R : List ℕ) (F : Option (ℕ × ℕ)) → is_in port R ≡ is_some F → (a c : Bool) → is_in port ((if a then p ∷ [] else []) ++ ((if c then q ∷ [] else []) ++ R)) ≡ is_some (if a && port == p then Some A else (if c && port == q then Some B else F))
listed_each port A B p q R F h true true = some_of (port == p) A (if port == q then Some B else F) (port == q || is_in port R) (some_of (port == q) B F (is_in port R) h)
listed_each port A B p q R F h true false = some_of (port == p) A F (is_in port R) h
listed_each port A B p q R F h false true = some_of (port == q) B F (is_in port R) h
listed_each port A B p q R F h false false = h

listed : (ls : List Link) (s port : ℕ) → is_in port (ports_at ls s) ≡ is_some (far_end_among ls s port)
listed [] s port = refl
listed (l ∷ ls) s port =
    listed_each port (l.other, l.other_port) (l.one, l.one_port) l.one_port l.other_port (ports_at ls s) (far_end_among ls s port) (listed ls s port) (s == l.one) (s == l.other)

none_is : (o : Option (ℕ × ℕ)) → is_some o ≡ not (is_none o)
none_is None = refl
none_is (Some x) = refl

-- such ports have 9 bits
all_append : {A : Type 0} (P : A → Type 0) (xs ys : List A) → AllByRecursion P xs → AllByRecursion P ys → AllByRecursion P (xs ++ ys)
all_append P [] ys h k = k
all_append P (x ∷ xs) ys h k = (h.0, all_append P xs ys h.1 k)

one_low : (b : Bool) (n : ℕ) → n < port_count → AllByRecursion (λ n. n < 512) (if b then n ∷ [] else [])
one_low true n h = (omega arith, tt)
one_low false n h = tt

low_ports : (net : Wiring) (ls : List Link) (s : ℕ) → All (IsLinkOf net) ls → AllByRecursion (λ n. n < 512) (ports_at ls s)
low_ports net [] s h = tt
low_ports net (l ∷ ls) s h =
    let is = All-head (IsLinkOf net) l ls h in
    all_append (λ n. n < 512) (if nat_eq s l.one then l.one_port ∷ [] else []) _ (one_low (nat_eq s l.one) l.one_port is.one_port)
    (all_append (λ n. n < 512) (if nat_eq s l.other then l.other_port ∷ [] else []) (ports_at ls s) (one_low (nat_eq s l.other) l.other_port is.other_port) (low_ports net ls s (All-tail (IsLinkOf net) l ls h)))

-- the registers of the forwarding program hold the same
same_cells : (rs : List Cells) (a b : Kept) → AllByRecursion (λ c. is_mine c.name ≡ false) rs → ((x : List ℕ) → is_mine x ≡ false → b.registers x ≡ a.registers x) → All (λ x. cells_of b x ≡ cells_of a x) (map (λ c. c.name) rs)
same_cells [] a b h same = All-nil (λ x. cells_of b x ≡ cells_of a x)
same_cells (r ∷ rs) a b h same =
    All-cons (λ x. cells_of b x ≡ cells_of a x) r.name (map (λ c. c.name) rs) (ap (map (λ (w : Word). w.value)) (same r.name h.0)) (same_cells rs a b h.1 same)

module _ {T Z C : Type 0} (m : Monitor T Z C) (Fit : T → Type 0) (Keeps : Z → (ℕ → C) → Kept → Type 0) (FitView : List Word → Type 0) (IsVariable : ℕ → Type 0) (IsFitContents : (variable : ℕ) → C → Type 0)
    (laws : MonitorLaws m Fit Keeps FitView IsVariable IsFitContents) (f : Parts) (net : Wiring) (decls : (switch : ℕ) → Declarations) (is : IsHost m FitView f net decls)
  where
    abbrev links : ℕ → List ℕ
    links s = ports_at net.links s

    low : (s : ℕ) → AllByRecursion (λ n. n < 512) (links s)
    low s = low_ports net net.links s is.network

    wired : (s port : ℕ) → is_in port (links s) ≡ not (at_edge net s port)
    wired s port = listed net.links s port ∙ none_is (far_end_among net.links s port)

    abbrev Enters : ℕ → ℕ → ℕ → Kept → Kept → Z → (ℕ → C) → T → List ℕ → Bool → Type 0
    Enters s port k a b z c t frame e =
        EnterAgrees net m.property (telemetry_of m) (KeptBy m Fit Keeps f) (HeldBy m Fit Keeps f links) Fit s e c k
        (entry_part m.property (reads_at s e false (view_of m.views (parts_enter f a.tables a.registers port frame).entry_state) c) t z)
        (entered_of (view_of m.views) a.tables (parts_enter f a.tables a.registers port frame))
        (entered_of (λ s. []) b.tables (parts_enter (linked_parts m s (links s) f (decls s)) b.tables b.registers port (carried (telemetry_of m) e t frame)))

    enters : (s port k : ℕ) (a b : Kept) (z : Z) (c : ℕ → C) (t : T) (frame : List ℕ) (e : Bool) → at_edge net s port ≡ e → port < 512 → KeptBy m Fit Keeps f s a z c k b → Fit t → (e ≡ true → t ≡ m.property.tele) → Enters s port k a b z c t frame e
    enters s port k a b z c t frame true e lt kept fits start =
        enter_edge m Fit Keeps FitView IsVariable IsFitContents laws f is.forwarding is.fields is.views s links (low s) (decls s) (is.joins s) net a b z c k kept port t frame lt (wired s port ∙ ap not e) (start refl)
    enters s port k a b z c t frame false e lt kept fits start =
        enter_link m Fit Keeps FitView IsVariable IsFitContents laws f is.forwarding is.fields is.views s links (low s) (decls s) (is.joins s) net a b z c k kept port t frame lt (wired s port ∙ ap not e) fits

    started : (s : ℕ) (e : Tables) (c : ℕ → C) → OwnEntries f e → ((v : ℕ) → IsVariable v → IsFitContents v (c v))
        → KeptBy m Fit Keeps f s (kept_before f e) m.property.sensors c 0 (record { registers = start_cells (decls s).registers; tables = m.controls.loaded c e })
    started s e c entries fits =
        let joins = is.joins s in
        record {
          own = λ x o. joins.own_registers x o;
          rejects = joins.monitor_registers rejects_register refl;
          tables = λ x o. laws.loads_others c e x (none_named m.tables x laws.tables_named o);
          entries = entries;
          monitor = laws.keeps_start c (record { registers = start_cells (decls s).registers; tables = e }) fits
              (λ x i. joins.monitor_registers x (sensor_mine x i)
              ∙ ap (λ b. cond b (zero_cells 32 1) (start_cells m.registers x)) (apart_names (λ n. not (is_sensor n)) rejects_register x refl (ap not i)));
        }

    pub laws_hold : KeepsHalves m f net decls Fit Keeps IsVariable IsFitContents
    laws_hold =
        record {
          enters = λ s port k a b z c t frame known lt kept fits start short. enters s port k a b z c t frame (at_edge net s port) refl (omega arith) kept fits start;
          leaves = λ s k first a b z c t q q' known kept held.
              leaves_agree m Fit Keeps FitView IsVariable IsFitContents laws f is.forwarding is.views s links (low s) (decls s) (is.joins s) net k first c (wired s) a b z t q q' kept held;
          sets = λ s v k a b z c x known kept named fit.
              record {
                own = kept.own;
                rejects = kept.rejects;
                tables = λ y o. laws.sets_others v x b.tables y (none_named m.tables y laws.tables_named o) ∙ kept.tables y o;
                entries = kept.entries;
                monitor = laws.keeps_set v x z c b named fit kept.monitor;
              };
          starts = λ s e c known fit fits. started s e c fit fits;
          forwards = λ s k a b z c known kept. same_cells f.registers a b is.forwarding.registers kept.own;
          monitors = λ s k a b z c known kept. record { sensors = laws.shown z c b kept.monitor; rejects = ap (map (λ (w : Word). w.value)) kept.rejects };
          start_fits = laws.start_fits;
          sized = λ t fits. bytes_sized m Fit Keeps FitView IsVariable IsFitContents laws f is.forwarding 0 [] tt (decls 0) t fits;
        }

    pub linked : IsLinkage m f net decls Fit Keeps IsVariable IsFitContents
    linked =
        linkage net m.property (telemetry_of m) (KeptBy m Fit Keeps f) (HeldBy m Fit Keeps f links) Fit
        (forwarding_machine m f net decls) (linked_machine m f net decls) (registers_of f m.sensors) (λ s. OwnEntries f) IsVariable (λ s. IsFitContents) is.network laws_hold
