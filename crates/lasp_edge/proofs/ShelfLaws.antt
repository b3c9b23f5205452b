-- Look-ups by name in a shelf, from those in its map.
use Rattle.std.proofs.Common.{◌≡◌, ℕ, List, [], ◌∷◌, true, false, cond, Some, refl, ap, ◌∙◌, map, option_map}
use Rattle.std.specs.Map.{lookup}
use Rattle.std.specs.BTreeMap.{BTreeMap, is_at, get_by_text, UpdatesBy}
use Rattle.std.specs.Cmp.Lexicographic.{slice_cmp}
use Rattle.std.specs.Ordering.{nat_cmp}
use Rattle.std.specs.Str.{bytes_eq}
use Rattle.std.specs.String.{string_bytes, string_cmp}
use Rattle.std.specs.declared.string.String.{String}
use Rattle.std.specs.declared.vec.Vec.{Vec}
use Rattle.std.proofs.lemmas.Map.Text.{btree_map_updates_text}
use Rattle.lasp_edge.specs.Shelf.{NamedBytes, file_at}

abbrev pub named : {A B : Type 0} → String A × Vec ℕ B → NamedBytes
named e = (string_bytes e.0, e.1.items)

-- a file's bytes are what the map has at the name
pub file_at-map : {A B : Type 0} (es : List (String A × Vec ℕ B)) (n : List ℕ)
    → file_at (map named es) n ≡ option_map (λ v. v.items) (lookup (λ k. is_at (slice_cmp nat_cmp n) (string_bytes k)) es)
file_at-map [] n = refl
file_at-map (e ∷ es) n =
    elim (is_at (slice_cmp nat_cmp n) (string_bytes e.0)) as (λ b. cond b (Some e.1.items) (file_at (map named es) n)
    ≡ option_map (λ v. v.items) (cond b (Some e.1) (lookup (λ k. is_at (slice_cmp nat_cmp n) (string_bytes k)) es)))
    [ true ↦ refl | false ↦ file_at-map es n ]

-- the same for a whole map
pub file_at-insert : {A B : Type 0} (bs : List ℕ) (m k : BTreeMap (String A) (Vec ℕ B)) (v : Vec ℕ B)
    → UpdatesBy string_cmp (λ q. slice_cmp nat_cmp bs (string_bytes q)) m k (Some v) → (n : List ℕ)
    → file_at (map named k.entries) n ≡ cond (bytes_eq bs n) (Some v.items) (file_at (map named m.entries) n)
file_at-insert bs m k v updates n =
    file_at-map k.entries n ∙ ap (option_map (λ w. w.items)) (btree_map_updates_text bs m k (Some v) updates n)
    ∙ elim (bytes_eq bs n) as (λ b. option_map (λ w. w.items) (cond b (Some v) (get_by_text m n)) ≡ cond b (Some v.items) (file_at (map named m.entries) n))
    [ true ↦ refl | false ↦ refl ∙ (let back : file_at (map named m.entries) n ≡ option_map (λ w. w.items) (get_by_text m n) = file_at-map m.entries n in cc) ]
