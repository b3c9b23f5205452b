-- Look-ups and insertion by name, among declarations that stand under their names.
use Rattle.std.proofs.Common.{◌≡◌, ◌≢◌, ◌∙◌, sym, ap, refl, subst, ℕ, suc, ◌+◌, ◌<◌, List, [], ◌∷◌, ◌++◌, map, length, Bool, true, false, not, cond, Some, None, nat_lt, String, string_bytes}
use Rattle.std.specs.List.{position, position_or_len, slice_get}
use Rattle.std.specs.Map.{keys_of}
use Rattle.std.specs.Str.{bytes_eq}
use Rattle.std.specs.String.{string_eq}
use Rattle.std.specs.declared.alloc.Global.{Global}
use Rattle.std.proofs.lemmas.List.{length-map, map-append}
use Rattle.std.proofs.lemmas.Slice.Eq.{bytes_eq-Decides}
use Rattle.indexmap.specs.IndexMap.{insert_entry}
use Rattle.model_graph.specs.Graph.{Decl}
use Rattle.model_graph.specs.Lawful.{variable_limit, width_of, widths}
use Rattle.model_graph.proofs.WidthLaws.{widths_from-append}
use Rattle.model_readings.specs.Graph.{place_of}
use Rattle.model_readings.specs.Lawful.{IsNext, IsGraph}
use Rattle.model_readings.proofs.Graphs.{graph-push}
use Rattle.lasp_graph.specs.declared.graph.Declared.{Declared}
use Rattle.lasp_graph.specs.Decl.{decl_of}
use Rattle.lasp_graph.specs.Kept.{Entry, decls_of, IsKept}

abbrev AreNamed : List Entry → Type 0
AreNamed es = map (λ e. string_bytes e.0) es ≡ map (λ e. e.1.decl.name) es

named_head : (e : Entry) (es : List Entry) → AreNamed (e ∷ es) → string_bytes e.0 ≡ e.1.decl.name
named_head e es h = cc

named_tail : (e : Entry) (es : List Entry) → AreNamed (e ∷ es) → AreNamed es
named_tail e es h = cc

first_named : (name : List ℕ) (es : List Entry) → AreNamed es → position_or_len (λ k. bytes_eq name (string_bytes k)) (keys_of es) ≡ position_or_len (λ d. bytes_eq name d.name) (decls_of es)
first_named name [] h = refl
first_named name (e ∷ es) h =
    let same = named_head e es h in
    let rest = first_named name es (named_tail e es h) in
    λ i. cond (not (bytes_eq name (same i))) (1 + rest i) 0

pub place-keys_of : (name : List ℕ) (es : List Entry) → AreNamed es → place_of name (decls_of es) ≡ position (λ k. bytes_eq name (string_bytes k)) (keys_of es)
unfolding place_of
place-keys_of name es h =
    let first = sym (first_named name es h) in
    let long : length (decls_of es) ≡ length (keys_of es) = length-map es _ ∙ sym (length-map es _) in
    λ i. cond (nat_lt (first i) (long i)) (Some (first i)) None

differ : (xs ys : List ℕ) (b : Bool) → bytes_eq xs ys ≡ b → xs ≢ ys → b ≡ false
differ xs ys true test other = absurd (other ((bytes_eq-Decides xs ys).0 test))
differ xs ys false test other = refl

-- a key that no entry has goes last
pub insert_new : (k : String Global) (d : Declared) (es : List Entry) → AreNamed es
    → ((i : ℕ) (e : Decl) → slice_get (decls_of es) i ≡ Some e → e.name ≢ string_bytes k)
    → insert_entry string_eq es k d ≡ es ++ (k, d) ∷ []
insert_new k d [] h new = refl
insert_new k d (e ∷ es) h new =
    let other : string_bytes k ≢ string_bytes e.0 = λ same. new 0 (decl_of e.1.decl) refl (sym (same ∙ named_head e es h)) in
    let test : string_eq k e.0 ≡ false = differ (string_bytes k) (string_bytes e.0) _ refl other in
    rw test (ap (λ r. e ∷ r) (insert_new k d es (named_tail e es h) (λ i f at. new (suc i) f at)))

pub named_push : (k : String Global) (d : Declared) (es : List Entry) → AreNamed es → string_bytes k ≡ d.decl.name → AreNamed (es ++ (k, d) ∷ [])
named_push k d [] h same = ap (λ x. x ∷ []) same
named_push k d (e ∷ es) h same =
    let head = named_head e es h in
    let tail = named_push k d es (named_tail e es h) same in
    λ i. head i ∷ tail i

-- a declaration more has its width last
pub widths-push : (g : List Decl) (d : Decl) → widths (g ++ d ∷ []) ≡ widths g ++ width_of d.kind (widths g) ∷ []
widths-push g d = widths_from-append g (d ∷ []) []

width_push : (es : List Entry) (k : String Global) (d : Declared) → map (λ e. e.1.width) es ≡ widths (decls_of es) → d.width ≡ width_of (decl_of d.decl).kind (widths (decls_of es))
    → map (λ e. e.1.width) (es ++ (k, d) ∷ []) ≡ widths (decls_of es ++ decl_of d.decl ∷ [])
width_push es k d before width =
    map-append (λ e. e.1.width) es ((k, d) ∷ [])
    ∙ ap (λ ws. ws ++ d.width ∷ []) before
    ∙ ap (λ w. widths (decls_of es) ++ w ∷ []) width
    ∙ sym (widths-push (decls_of es) (decl_of d.decl))

-- after the insertion of a declaration that may follow, the graph is kept, and has it last
pub kept_push : (es : List Entry) (k : String Global) (d : Declared) (fs : List Entry) → IsKept es → length (decls_of es) < variable_limit
    → IsNext (decls_of es) (decl_of d.decl) → string_bytes k ≡ d.decl.name → d.width ≡ width_of (decl_of d.decl).kind (widths (decls_of es)) → fs ≡ insert_entry string_eq es k d
    → IsKept fs × (decls_of fs ≡ decls_of es ++ decl_of d.decl ∷ [])
kept_push es k d fs kept room next same width e =
    let last : fs ≡ es ++ (k, d) ∷ [] = e ∙ insert_new k d es kept.names (λ i f at equal. next.new i f at (equal ∙ same)) in
    let decls : decls_of fs ≡ decls_of es ++ decl_of d.decl ∷ [] = ap decls_of last ∙ map-append (λ e. decl_of e.1.decl) es ((k, d) ∷ []) in (
      record {
        names = subst AreNamed (sym last) (named_push k d es kept.names same);
        widths = ap (map (λ e. e.1.width)) last ∙ width_push es k d kept.widths width ∙ ap widths (sym decls);
        graph = subst IsGraph (sym decls) (graph-push (decls_of es) (decl_of d.decl) kept.graph room next);
      },
      decls,
    )
