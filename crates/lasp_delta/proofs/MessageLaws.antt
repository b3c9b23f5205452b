-- A send and a delivery by deltas.
use Rattle.std.proofs.Common.{refl, sym, ap, subst, ◌∙◌, arith, get_or}
use Rattle.std.specs.Prelude.{◌≡◌, ℕ, ◌+◌, ◌<◌, List, [], ◌∷◌, ◌++◌, Bool, true, false, map, fold, length, take, is_some, if◌then◌else◌, slice_get, slice_set, slice_index_or, Option, Some, None, Result, Ok}
use Rattle.model_states.proofs.CountLaws.{length-zeros}
use Rattle.model_graph.specs.Chain.{◌>>=◌}
use Rattle.model_graph.specs.Graph.{Decl}
use Rattle.model_graph.proofs.PlaceLaws.{at-append, at-last}
use Rattle.model_graph.specs.Message.{Message}
use Rattle.model_world.specs.Command as plain
use Rattle.model_world.specs.Lawful.{stage_after}
use Rattle.model_world.specs.World.{Run, Post, Take, no_message, peer_at, message_at, sent_number, act, effect}
use Rattle.model_world.specs.declared.stop.Stop.{Stop}
use Rattle.model_world.specs.Holds.{Holds}
use Rattle.model_world.proofs.EffectLaws.{act-effect}
use Rattle.model_runs.specs.Held.{IsSentTo}
use Rattle.model_runs.specs.Part.{BringsAsMuch}
use Rattle.model_wire.specs.Lawful.{IsMessage}
use Rattle.model_deltas.specs.Delta.{Delta, delta_of, carried}
use Rattle.model_deltas.specs.Applied.{Cause, first_gap}
use Rattle.model_deltas.specs.Before.{IsBefore, IsDelta}
use Rattle.model_deltas.specs.Spelling.{spelled_delta}
use Rattle.model_deltas.proofs.CodecLaws.{known_decoded}
use Rattle.lasp_delta.specs.Letter.{read_or_none, delta_in}
use Rattle.model_deltas.specs.Gossip.{Gossip, nothing_told, told_by, last_told, delta_number, gap_at, gossip_after, gossip_each, delta_size}
use Rattle.model_deltas.specs.Going.{IsSentNumber}
use Rattle.model_deltas.proofs.TravelLaws.{tells-more, going-post, going-take, delta-wide, brings-delta}
use Rattle.lasp_drive.specs.Since.{message_since}
use Rattle.lasp_drive.specs.Node.{NodeView}
use Rattle.lasp_drive.specs.Tails.{IsBehind}
use Rattle.lasp_drive.specs.declared.node.Tail.{Tail}
use Rattle.lasp_drive.specs.Driver.{DriverView, run_of, stage_of, Stands}
use Rattle.lasp_drive.specs.Acts.{Acted, MayDo}
use Rattle.lasp_drive.proofs.NodeLaws.{sent-read}
use Rattle.lasp_drive.proofs.TailLaws.{kept-behind}
use Rattle.lasp_delta.specs.Since.{LeadsFrom}
use Rattle.lasp_delta.specs.Seen.{DeltaView, gossip_of, IsUnderWay}
use Rattle.lasp_delta.specs.Answered.{IsGap}
use Rattle.lasp_delta.specs.declared.refused.DeltaRefused.{DeltaRefused}
use Rattle.lasp_delta.specs.declared.refused.DeltaRefused.TheVariants as refused
use Rattle.lasp_delta.specs.Acts.{Did, BringsTheSame, StandsFor, knows_too_little, Went}
use Rattle.lasp_delta.proofs.GoLaws.{act-one, going-in, run-asked}
use Rattle.std.proofs.lemmas.List.{length-map, take_more}
use Rattle.std.proofs.lemmas.Option.{slice_get_read, get_or_from_slice_get}

-- ---- what stands at a place

pub peers-many : (d : DriverView) → length (run_of d).peers ≡ length d.nodes
peers-many d = length-map d.nodes (λ (n : NodeView). n.peer)

pub told-there : (c p : ℕ) (d : DeltaView) → IsUnderWay c d → p < length d.driver.nodes → IsSentNumber (run_of d.driver) (slice_index_or d.last p None)
told-there c p d under_way member = (under_way.going.travels.told p (omega (arith, member, peers-many d.driver))).there

nothing-sent : (nodes : ℕ) (g : List Decl) → IsSentTo nodes g (nothing_told nodes)
nothing-sent nodes g = record { wide = length-zeros nodes; declared = 0; sources = refl; each = tt }

told-sent : (c : ℕ) (d : DriverView) → Stands c d → (number : Option ℕ) → IsSentNumber (run_of d) number → IsSentTo (length d.nodes) d.graph (told_by (run_of d) number)
told-sent c d ready None h = subst (λ (n : ℕ). IsSentTo (length d.nodes) d.graph (nothing_told n)) (sym (peers-many d)) (nothing-sent (length d.nodes) d.graph)
told-sent c d ready (Some i) h = ready.sound.sent i h

-- ---- a send

abbrev pub message_in : DriverView → ℕ → Message
message_in d p = message_at d.graph (peer_at (run_of d).peers p)

-- what a node told last goes before what it tells now
pub tells-before : (c p : ℕ) (d : DeltaView) → IsUnderWay c d → p < length d.driver.nodes → IsBefore (last_told (gossip_of d) p) (message_in d.driver p)
tells-before c p d under_way member =
    let going = under_way.going in
    let within : p < length (run_of d.driver).peers = omega (arith, member, peers-many d.driver) in
    let holds : Holds d.driver.graph (length d.driver.nodes) going.followed.deltas (peer_at (run_of d.driver).peers p).contents (peer_at (run_of d.driver).peers p).counts =
    subst (λ (r : Run). Holds r.graph (length d.driver.nodes) going.followed.deltas (peer_at r.peers p).contents (peer_at r.peers p).counts) going.run (going.at.sound.holds p member) in
    tells-more (length d.driver.nodes) c p (stage_of d.driver) (gossip_of d) going within holds (told-sent c d.driver under_way.ready (slice_index_or d.last p None) (told-there c p d under_way member))

-- the last message is what the node sent
pub sent-last : (c p : ℕ) (d e : DriverView) → Acted c c d (Post p ∷ []) e → sent_number e.sent (length d.sent) ≡ message_in d p
sent-last c p d e acted =
    let is : run_of e ≡ effect (run_of d) (Post p) = act-effect c (run_of d) (run_of e) (Post p) (act-one c (run_of d) (run_of e) (Post p) acted.run) in
    ap (λ (r : Run). sent_number r.sent (length d.sent)) is ∙ at-last d.sent (message_in d p) no_message

pub sent-more : (c p : ℕ) (d e : DriverView) → Acted c c d (Post p ∷ []) e → length d.sent < length e.sent
sent-more c p d e acted =
    let is : run_of e ≡ effect (run_of d) (Post p) = act-effect c (run_of d) (run_of e) (Post p) (act-one c (run_of d) (run_of e) (Post p) acted.run) in
    omega (arith, ap (λ (r : Run). length r.sent) is, length-push d.sent (message_in d p)) where
      length-push : (ms : List Message) (m : Message) → length (ms ++ m ∷ []) ≡ length ms + 1
      length-push [] m = refl
      length-push (x ∷ ms) m = omega (arith, length-push ms m)

-- the run with what was sent travelling as a delta
abbrev pub with_post : DeltaView → DriverView → ℕ → Delta → DeltaView
with_post d e p delta = record { driver = e; last = slice_set d.last p (Some (length d.driver.sent)); deltas = d.deltas ++ delta ∷ []; deliveries = d.deliveries; gaps = d.gaps }

pub went-post : (c p : ℕ) (d : DeltaView) (e : DriverView) (delta : Delta) → IsUnderWay c d → p < length d.driver.nodes → IsMessage (last_told (gossip_of d) p) → IsMessage (message_in d.driver p) → Acted c c d.driver (Post p ∷ []) e
    → delta ≡ delta_of (last_told (gossip_of d) p) (message_in d.driver p) → Went c c d (Post p ∷ []) (with_post d e p delta)
went-post c p d e delta under_way member lawful whole acted is =
    let s = gossip_of d in
    let n = length d.driver.nodes in
    let one : act c (run_of d.driver) (Post p) ≡ Ok (run_of e) = act-one c (run_of d.driver) (run_of e) (Post p) acted.run in
    let after : gossip_after s (Post p) (run_of e) ≡ gossip_of (with_post d e p delta) =
    ap (λ (x : Delta). record { run = run_of e; last = slice_set d.last p (Some (length d.driver.sent)); deltas = d.deltas ++ x ∷ []; deliveries = d.deliveries; gaps = d.gaps }) (sym is) in
    let going = going-post n c p (stage_of d.driver) s under_way.going (omega (arith, member, peers-many d.driver)) (run_of e) lawful whole (tells-before c p d under_way member) one in
    record {
      under_way = record {
        ready = acted.ready;
        going = going-in n (length e.nodes) (stage_after n (stage_of d.driver) (plain.Send p)) (stage_of e) (gossip_after s (Post p) (run_of e)) (gossip_of (with_post d e p delta)) (sym acted.size) (sym acted.stage) after going;
      };
      size = acted.size;
      stage = acted.stage;
      run = ap (λ (r : Result Run Stop). (r >>= (λ next. Ok (gossip_after s (Post p) next))) >>= (λ t. gossip_each c t [])) one ∙ ap (λ (t : Gossip). Ok t) after;
    }

-- ---- a delivery

-- ---- whether there was a gap

pub none-told : (d : DriverView) (p : ℕ) (delta : Delta) (counts : List ℕ) → counts ≡ (peer_at (run_of d).peers p).counts → first_gap 0 counts delta.from ≡ None → false ≡ knows_too_little d p delta
none-told d p delta counts is none = sym (ap (λ (cs : List ℕ). is_some (first_gap 0 cs delta.from)) (sym is) ∙ ap (λ (o : Option Cause). is_some o) none)

gap-some : (refused : DeltaRefused) (o : Option Cause) → IsGap refused o → true ≡ is_some o
gap-some (refused.Gap q have need) o h = sym (ap (λ (x : Option Cause). is_some x) h)
gap-some (refused.TooManyRows x) o h = absurd h
gap-some refused.Memory o h = absurd h

pub gap-told : (d : DriverView) (p : ℕ) (delta : Delta) (counts : List ℕ) (refused : DeltaRefused) → counts ≡ (peer_at (run_of d).peers p).counts → IsGap refused (first_gap 0 counts delta.from) → true ≡ knows_too_little d p delta
gap-told d p delta counts refused is found = gap-some refused (first_gap 0 counts delta.from) found ∙ ap (λ (cs : List ℕ). is_some (first_gap 0 cs delta.from)) is

-- the run with one delivery more, at which there was a gap or not
abbrev pub with_take : DeltaView → DriverView → ℕ → DeltaView
with_take d e gaps = record { driver = e; last = d.last; deltas = d.deltas; deliveries = d.deliveries + 1; gaps = gaps }

pub went-take : (c p i gaps : ℕ) (d : DeltaView) (e : DriverView) → IsUnderWay c d → Did c d.driver (Take p i ∷ []) e → gaps ≡ d.gaps + gap_at (gossip_of d) p i → Went c c d (Take p i ∷ []) (with_take d e gaps)
went-take c p i gaps d e under_way did is =
    let s = gossip_of d in
    let n = length d.driver.nodes in
    let one : act c (run_of d.driver) (Take p i) ≡ Ok (run_of e) = act-one c (run_of d.driver) (run_of e) (Take p i) did.run in
    let after : gossip_after s (Take p i) (run_of e) ≡ gossip_of (with_take d e gaps) =
    ap (λ (k : ℕ). record { run = run_of e; last = d.last; deltas = d.deltas; deliveries = d.deliveries + 1; gaps = k }) (sym is) in
    record {
      under_way = record {
        ready = did.ready;
        going = going-in n (length e.nodes) (stage_of d.driver) (stage_of e) (gossip_after s (Take p i) (run_of e)) (gossip_of (with_take d e gaps)) (sym did.size) (sym did.stage) after
            (going-take n c p i (stage_of d.driver) s (run_of e) under_way.going one);
      };
      size = did.size;
      stage = did.stage;
      run = ap (λ (r : Result Run Stop). (r >>= (λ next. Ok (gossip_after s (Take p i) next))) >>= (λ t. gossip_each c t [])) one ∙ ap (λ (t : Gossip). Ok t) after;
    }

-- a run whose driver was only asked
pub under-way-asked : (c : ℕ) (d : DeltaView) (e : DriverView) → IsUnderWay c d → Did c d.driver [] e → IsUnderWay c (record { driver = e; last = d.last; deltas = d.deltas; deliveries = d.deliveries; gaps = d.gaps })
under-way-asked c d e under_way asked =
    let same : gossip_of d ≡ record { run = run_of e; last = d.last; deltas = d.deltas; deliveries = d.deliveries; gaps = d.gaps } =
    ap (λ (r : Run). record { run = r; last = d.last; deltas = d.deltas; deliveries = d.deliveries; gaps = d.gaps }) (run-asked c d.driver e asked) in
    record { ready = asked.ready; going = going-in (length d.driver.nodes) (length e.nodes) (stage_of d.driver) (stage_of e) (gossip_of d) (record { run = run_of e; last = d.last; deltas = d.deltas; deliveries = d.deliveries; gaps = d.gaps }) (sym asked.size) (sym asked.stage) same under_way.going }

-- ---- a delta on its way

-- the bytes of a delta are read as it
pub delta-back : (bytes : List ℕ) (d : Delta) → IsDelta d → bytes ≡ spelled_delta d → delta_in bytes ≡ d
delta-back bytes d lawful is = ap delta_in is ∙ ap read_or_none (known_decoded d lawful)

sum-from : (z : ℕ) (ds : List Delta) (d : Delta) → fold (λ a b. a + b) z (map (λ (x : Delta). length (spelled_delta x)) (ds ++ d ∷ [])) ≡ fold (λ a b. a + b) z (map (λ (x : Delta). length (spelled_delta x)) ds) + length (spelled_delta d)
sum-from z [] d = refl
sum-from z (x ∷ ds) d = sum-from (z + length (spelled_delta x)) ds d

pub size-more : (ds : List Delta) (d : Delta) → delta_size (ds ++ d ∷ []) ≡ delta_size ds + length (spelled_delta d)
size-more = sum-from 0

pub last-low : (c p : ℕ) (d : DeltaView) → IsUnderWay c d → p < length d.driver.nodes → p < length d.last
last-low c p d under_way member = omega (arith, member, peers-many d.driver, under_way.going.travels.nodes)

pub letter-low : (c i : ℕ) (d : DeltaView) → IsUnderWay c d → i < length d.driver.sent → i < length d.deltas
letter-low c i d under_way within = omega (arith, within, under_way.going.travels.many)

-- the delta of a message stands for it
pub stands-there : (c p i : ℕ) (d : DeltaView) → IsUnderWay c d → p < length d.driver.nodes → i < length d.driver.sent → StandsFor d.driver p i (delta_number (gossip_of d) i)
stands-there c p i d under_way member within =
    let n = length d.driver.nodes in
    let to = under_way.ready.sound.sent i within in
    record {
      wide = delta-wide n (stage_of d.driver) (gossip_of d) p i under_way.going member within to;
      brings = brings-delta n (stage_of d.driver) (gossip_of d) p i under_way.going member within to;
    }

-- what a driver that was asked is brought
pub brings-asked : (c p i : ℕ) (d e : DriverView) (m : Message) → Did c d [] e → BringsTheSame d p i m → BringsTheSame e p i m
brings-asked c p i d e m asked h = subst (λ (r : Run). BringsAsMuch r.graph (peer_at r.peers p).contents (sent_number r.sent i) m) (run-asked c d e asked) h

-- what a delta carries brings the node as much, once the node was asked
pub carried-brings : (c p i : ℕ) (d e : DriverView) (delta : Delta) (counts : List ℕ) (m : Message) → Did c d [] e → StandsFor d p i delta → counts ≡ (peer_at (run_of d).peers p).counts → first_gap 0 counts delta.from ≡ None → m ≡ carried delta → BringsTheSame e p i m
carried-brings c p i d e delta counts m asked stands is none same =
    subst (λ (k : Message). BringsTheSame e p i k) (sym same) (brings-asked c p i d e (carried delta) asked (stands.brings (subst (λ (cs : List ℕ). first_gap 0 cs delta.from ≡ None) is none)))

-- the gaps by what was told of one
pub gaps-more : (d : DeltaView) (p i : ℕ) (gap : Bool) → gap ≡ knows_too_little d.driver p (delta_number (gossip_of d) i) → d.gaps + (if gap then 1 else 0) ≡ d.gaps + gap_at (gossip_of d) p i
gaps-more d p i gap e = ap (λ (b : Bool). d.gaps + (if b then 1 else 0)) e

pub went-taken : (c p i deliveries gaps : ℕ) (gap : Bool) (d : DeltaView) (e : DriverView) (delta : Delta) → IsUnderWay c d → Did c d.driver (Take p i ∷ []) e → delta_number (gossip_of d) i ≡ delta → gap ≡ knows_too_little d.driver p delta
    → gaps ≡ d.gaps + (if gap then 1 else 0) → deliveries ≡ d.deliveries + 1 → Went c c d (Take p i ∷ []) (record { driver = e; last = d.last; deltas = d.deltas; deliveries = deliveries; gaps = gaps })
went-taken c p i deliveries gaps gap d e delta under_way did is has more one =
    subst (λ (k : ℕ). Went c c d (Take p i ∷ []) (record { driver = e; last = d.last; deltas = d.deltas; deliveries = k; gaps = gaps })) (sym one)
    (went-take c p i gaps d e under_way did (more ∙ gaps-more d p i gap (has ∙ ap (knows_too_little d.driver p) (sym is))))

-- ---- what is read of a run

pub read-or : {X : Type 0} (xs : List X) (i : ℕ) (x other : X) → i < length xs → x ≡ get_or xs i x → slice_index_or xs i other ≡ x
read-or xs i x other within found = get_or_from_slice_get xs i x other (slice_get_read xs (length xs) i x refl within found)

-- a node told last what was sent under the number that is kept of it
pub told-number : (c p i : ℕ) (d : DeltaView) → IsUnderWay c d → p < length d.driver.nodes → slice_index_or d.last p None ≡ Some i → i < length d.driver.sent
told-number c p i d under_way member e = subst (λ (number : Option ℕ). IsSentNumber (run_of d.driver) number) e (told-there c p d under_way member)

pub told-read : (d : DeltaView) (p i : ℕ) (m : Message) → slice_index_or d.last p None ≡ Some i → slice_get d.driver.sent i ≡ Some m → m ≡ last_told (gossip_of d) p
told-read d p i m e at = sent-read d.driver.sent i m at ∙ ap (told_by (run_of d.driver)) (sym e)

pub told-nothing : (d : DeltaView) (p many : ℕ) → slice_index_or d.last p None ≡ None → many ≡ length d.driver.nodes → nothing_told many ≡ last_told (gossip_of d) p
told-nothing d p many e size = ap nothing_told (size ∙ sym (peers-many d.driver)) ∙ ap (told_by (run_of d.driver)) (sym e)

-- what a node has just sent is under the next number
pub sent-now : (c p number : ℕ) (d e : DriverView) (m : Message) → Acted c c d (Post p ∷ []) e → number ≡ length d.sent → slice_get e.sent number ≡ Some m → m ≡ message_in d p
sent-now c p number d e m acted is at = sent-read e.sent number m at ∙ ap (sent_number e.sent) is ∙ sent-last c p d e acted

pub before-now : (c p : ℕ) (d : DeltaView) (before now : Message) → IsUnderWay c d → p < length d.driver.nodes → before ≡ last_told (gossip_of d) p → now ≡ message_in d.driver p → IsBefore before now
before-now c p d before now under_way member was is =
    subst (λ (m : Message). IsBefore m now) (sym was) (subst (λ (m : Message). IsBefore (last_told (gossip_of d) p) m) (sym is) (tells-before c p d under_way member))

-- what the driver keeps of the message leads to it from what the node told last
pub leads-now : (c p number : ℕ) (d : DeltaView) (e : DriverView) (before now : Message) (last : Option ℕ) (kept : Option Tail) → IsUnderWay c d → p < length d.driver.nodes → IsMessage now → Acted c c d.driver (Post p ∷ []) e → number ≡ length d.driver.sent
    → before ≡ last_told (gossip_of d) p → now ≡ message_in d.driver p → slice_index_or d.last p None ≡ last → kept ≡ get_or e.tails number kept → LeadsFrom last before kept now
leads-now c p number d e before now last kept under_way member whole acted counted was is told read t here behind = record {
  lawful = whole;
  earlier = before-now c p d before now under_way member was is;
  exact = stands.exact ∙ (λ i. message_since (earlier i) (newest i));
} where
  posted : run_of e ≡ effect (run_of d.driver) (Post p)
  posted = act-effect c (run_of d.driver) (run_of e) (Post p) (act-one c (run_of d.driver) (run_of e) (Post p) acted.run)

  stands : IsBehind e.graph e.sent number t
  stands = kept-behind e.graph e.nodes e.sent e.tails number kept t acted.ready.tailed (omega (arith, sent-more c p d.driver e acted, counted)) read here

  number-is : slice_index_or d.last p None ≡ Some t.before
  number-is = told ∙ behind

  low : t.before < length d.driver.sent
  low = told-number c p t.before d under_way member number-is

  earlier : sent_number e.sent t.before ≡ before
  earlier =
      ap (λ (r : Run). sent_number r.sent t.before) posted ∙ at-append d.driver.sent (message_in d.driver p ∷ []) t.before no_message low
      ∙ sym (was ∙ ap (λ (o : Option ℕ). told_by (run_of d.driver) o) number-is)

  newest : sent_number e.sent number ≡ now
  newest = ap (sent_number e.sent) counted ∙ sent-last c p d.driver e acted ∙ sym is

pub went-posted : (c p number : ℕ) (d : DeltaView) (e : DriverView) (before now : Message) (delta : Delta) → IsUnderWay c d → p < length d.driver.nodes → IsMessage before → IsMessage now → Acted c c d.driver (Post p ∷ []) e → number ≡ length d.driver.sent
    → before ≡ last_told (gossip_of d) p → now ≡ message_in d.driver p → delta ≡ delta_of before now
    → Went c c d (Post p ∷ []) (record { driver = e; last = slice_set d.last p (Some number); deltas = d.deltas ++ delta ∷ []; deliveries = d.deliveries; gaps = d.gaps })
went-posted c p number d e before now delta under_way member lawful whole acted counted was is made =
    subst (λ (k : ℕ). Went c c d (Post p ∷ []) (record { driver = e; last = slice_set d.last p (Some k); deltas = d.deltas ++ delta ∷ []; deliveries = d.deliveries; gaps = d.gaps })) (sym counted)
    (went-post c p d e delta under_way member (subst IsMessage was lawful) (subst IsMessage is whole) acted (made ∙ ap (λ (m : Message). delta_of m now) was ∙ ap (delta_of (last_told (gossip_of d) p)) is))

-- the same, of what the run keeps behind its letters
pub went-sent : (c p number : ℕ) (d : DeltaView) (e : DriverView) (before now : Message) (delta letter : Delta) (deltas : List Delta) → IsUnderWay c d → p < length d.driver.nodes → IsMessage before → IsMessage now → Acted c c d.driver (Post p ∷ []) e → number ≡ length d.driver.sent
    → before ≡ last_told (gossip_of d) p → now ≡ message_in d.driver p → delta ≡ delta_of before now → letter ≡ delta → deltas ≡ d.deltas ++ letter ∷ []
    → Went c c d (Post p ∷ []) (record { driver = e; last = slice_set d.last p (Some number); deltas = deltas; deliveries = d.deliveries; gaps = d.gaps })
went-sent c p number d e before now delta letter deltas under_way member lawful whole acted counted was is made same more =
    subst (λ (ds : List Delta). Went c c d (Post p ∷ []) (record { driver = e; last = slice_set d.last p (Some number); deltas = ds; deliveries = d.deliveries; gaps = d.gaps })) (sym (more ∙ ap (λ (x : Delta). d.deltas ++ x ∷ []) same))
    (went-posted c p number d e before now delta under_way member lawful whole acted counted was is made)

-- what may be done, may be done once the node was asked
pub may-asked : (c p i : ℕ) (d e : DriverView) → Did c d [] e → MayDo c d (Take p i) → MayDo c e (Take p i)
may-asked c p i d e asked may = (omega (arith, may.0, asked.size), subst (λ (r : Run). i < length r.sent) (run-asked c d e asked) may.1)

-- the bytes of the deltas up to the next
pub size-next : (ds : List Delta) (i size more : ℕ) (d : Delta) → i < length ds → d ≡ get_or ds i d → size ≡ delta_size (take i ds) → more ≡ size + length (spelled_delta d) → more ≡ delta_size (take (i + 1) ds)
size-next ds i size more d within found is sum =
    sum ∙ ap (λ (k : ℕ). k + length (spelled_delta d)) is ∙ sym (size-more (take i ds) d) ∙ ap delta_size (ap (λ (x : Delta). take i ds ++ x ∷ []) found ∙ sym (take_more ds i d within))
