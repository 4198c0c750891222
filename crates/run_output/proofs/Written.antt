-- The files that are written, and the summary.
use Rattle.std.proofs.Common.{◌≡◌, ℕ, ◌+◌, ◌-◌, ◌<◌, ◌≤◌, List, [], ◌∷◌, ◌++◌, length, map, take, get_or, codes, All, refl, ap, sym, ◌∙◌, subst, arith, append_assoc}
use Rattle.std.proofs.Math.ListN.{get_or-map}
use Rattle.std.proofs.lemmas.List.{length-map, map-append, map_more}
use Rattle.bit_values.specs.Bits.{cast}
use Rattle.p4_tree.specs.Tree.{Program}
use Rattle.network_run.specs.Network.{Sent}
use Rattle.report_writer.specs.Texts.{summary_of}
use Rattle.path_runner.specs.Nets.{State, Traffic, Shows}
use Rattle.path_runner.specs.Packets.{sent_of}
use Rattle.path_runner.specs.declared.packet.Sent as code
use Rattle.switch_machines.specs.Programs.{Programs}
use Rattle.run_texts.specs.Told.{reports_in}
use Rattle.run_texts.specs.Registers.{rejected_from}
use Rattle.run_texts.specs.Files.{Run, summary_text_of}
use Rattle.run_texts.proofs.Behind.{Files, then_more}
use Rattle.run_output.specs.Counted.{counts_in}
use Rattle.run_output.specs.Ends.{IsShort}
use Rattle.run_output.specs.Wire.{frame_files}

-- those of the programs; of the frames on links and of those that left; of what was told; of the registers and the summary
pub all_files : (linked wires edges told registers summary one two three four five : Files) → one ≡ linked → two ≡ one ++ (wires ++ edges) → three ≡ two ++ told → four ≡ three ++ registers → five ≡ four ++ summary → five ≡ linked ++ (wires ++ (edges ++ (told ++ (registers ++ summary))))
all_files linked wires edges told registers summary one two three four five e f g h k =
    let second : two ≡ linked ++ (wires ++ edges) = f ∙ ap (λ (fs : Files). fs ++ (wires ++ edges)) e in
    let third : three ≡ linked ++ ((wires ++ edges) ++ told) = then_more linked two three (wires ++ edges) told second g in
    let fourth : four ≡ linked ++ (((wires ++ edges) ++ told) ++ registers) = then_more linked three four ((wires ++ edges) ++ told) registers third h in
    then_more linked four five (((wires ++ edges) ++ told) ++ registers) summary fourth k
    ∙ ap (λ (fs : Files). linked ++ fs)
    (append_assoc ((wires ++ edges) ++ told) registers summary
    ∙ append_assoc (wires ++ edges) told (registers ++ summary)
    ∙ append_assoc wires edges (told ++ (registers ++ summary)))

-- the frames of the program are as short as those that it shows
pub short_items : {A : Type 0} (v : A → Sent) (xs : List A) → All IsShort (map v xs) → All (λ x. length (v x).frame ≤ 65791) xs
short_items v xs h = λ k d lt. subst (λ (x : Sent). length x.frame ≤ 65791) (get_or-map v xs k d) (h k (v d) (omega (arith, length-map xs v, lt)))

-- the summary of what is counted
pub summary_is : (n sent dropped rejected lost reports r : ℕ) (t : Traffic) → sent ≡ length t.edges → rejected ≡ r → dropped ≡ t.dropped - rejected → lost ≡ t.lost → reports ≡ reports_in t.told → summary_of (record { packets = n; sent = sent; dropped = dropped; rejected = rejected; lost = lost; reports = reports }) ≡ summary_of (counts_in n r t)
summary_is n sent dropped rejected lost reports r t a b c d e =
    rw (a, c, b, d, e) refl

-- what a state counts is what each network counts for which it stands
pub ended : (ps : List Program) (n : ℕ) (p : Programs) (w : Run) (s : State) → Shows p s w → summary_of (counts_in n (cast 32 (rejected_from ps w.switches 0)) s.traffic) ≡ summary_text_of ps n w
ended ps n p w s shows = rw (sym shows.edges, sym shows.told, sym shows.dropped, sym shows.lost) refl

-- the file of one frame more
pub frames_more :
    (o : List ℕ) (xs : List code.Sent) (i : ℕ) (x : code.Sent) (first before now : Files) → i < length xs → x ≡ get_or xs i x →
    before ≡ first ++ frame_files o (map sent_of (take i xs)) → now ≡ before ++ (o ++ codes ".frame", x.frame.items) ∷ [] → now ≡ first ++ frame_files o (map sent_of (take (i + 1) xs))
frames_more o xs i x first before now lt at so_far is =
    let file : Sent → List ℕ × List ℕ = λ y. (o ++ codes ".frame", y.frame) in
    let sent = map sent_of (take i xs) in
    is
    ∙ ap (λ (fs : Files). fs ++ file (sent_of x) ∷ []) so_far
    ∙ append_assoc first (map file sent) (file (sent_of x) ∷ [])
    ∙ ap (λ (fs : Files). first ++ fs)
    (sym (map-append file sent (sent_of x ∷ [])) ∙ ap (λ (ys : List Sent). map file ys) (ap (λ (y : code.Sent). sent ++ sent_of y ∷ []) at ∙ sym (map_more sent_of xs i x lt)))
