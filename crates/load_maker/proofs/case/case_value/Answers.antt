use Rattle.std.proofs.Common.{◌≡◌, ◌∙◌, List, ℕ, map, ap, codes, rules}
use Rattle.serde_json.specs.Data.{Members, no_members, string, object, put}
use Rattle.serde_json.specs.View.{view, members_view}
use Rattle.serde_json.specs.declared.value.Value.{Object, Array, the_lemmas}
use Rattle.load_maker.specs.Values.{case_data, file_name, capture_places, list_of}
use Rattle.load_maker.proofs.case.case_value.Goals as goal

-- six members, the first of which is put last
six : (a b d e f g : Members → Members) (m0 m1 m2 m3 m4 m5 m6 : Members)
    → m0 ≡ no_members → m1 ≡ a m0 → m2 ≡ b m1 → m3 ≡ d m2 → m4 ≡ e m3 → m5 ≡ f m4 → m6 ≡ g m5
    → object m6 ≡ object (g (f (e (d (b (a no_members))))))
six a b d e f g m0 m1 m2 m3 m4 m5 m6 z p q r s t u =
    ap object (u ∙ ap g (t ∙ ap f (s ∙ ap e (r ∙ ap d (q ∙ ap b (p ∙ ap a z))))))

pub returns : goal.returns
unfolding case_data
returns c =
    let out = c.args.out.now in
    let places = list_of (capture_places out) in
    let name : List ℕ → List ℕ → Members → Members = λ key ending. put key (string (file_name out ending)) in
    let array : view (Array c.in_ok-captures.captures) ≡ list_of (map view c.in_ok-captures.captures.items) = search (rules, the_lemmas) in
    let opened : view (Object c.put_name-5.new.case) ≡ object (members_view c.put_name-5.new.case.entries) = search (rules, the_lemmas) in
    opened ∙ six (put (codes "captures") places) (name (codes "control") (codes "control.json")) (name (codes "entries") (codes "entries.json"))
    (name (codes "network") (codes "net.json")) (name (codes "program") (codes "basic.p4")) (name (codes "property") (codes "path.indus"))
    (members_view c.new-case.result.entries) _ _ _ _ _ _
    (ap members_view c.new-case.ensures.empty)
    (c.in_ok-put.ensures.ok ∙ ap (λ d. put (codes "captures") d (members_view c.new-case.result.entries)) (array ∙ ap list_of c.in_ok-captures.ensures))
    c.in_ok-put_name.ensures c.in_ok-put_name-2.ensures c.in_ok-put_name-3.ensures c.in_ok-put_name-4.ensures c.in_ok-put_name-5.ensures
