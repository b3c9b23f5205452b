-- A run by deltas is the run.
use Rattle.std.proofs.Common.{◌≡◌, ℕ, ◌+◌, List, [], ◌∷◌, ◌++◌, Result, Ok, Err, refl, sym, ap, ◌∙◌}
use Rattle.std.specs.Prelude.{◌↔◌}
use Rattle.model_graph.specs.Chain.{◌>>=◌}
use Rattle.model_graph.specs.Graph.{Decl}
use Rattle.model_world.specs.Command.{Command, Script}
use Rattle.model_world.specs.World.{Run, Act, Update, Keep, Post, Take, Point, Show, Open, Reach, Extend, act, acts, each, play, ended}
use Rattle.model_world.specs.declared.stop.Stop.{Stop}
use Rattle.model_deltas.specs.Gossip.{Gossip, gossip_after, gossip_act, gossip_each, gossip_step, gossip, gossip_start, gossiped}

-- the run alone
abbrev pub forget : Result Gossip Stop → Result Run Stop
forget (Ok s) = Ok s.run
forget (Err stop) = Err stop

after-run : (s : Gossip) (a : Act) (next : Run) → (gossip_after s a next).run ≡ next
after-run s (Update p x op) next = refl
after-run s (Keep p x) next = refl
after-run s (Post p) next = refl
after-run s (Take p i) next = refl
after-run s Point next = refl
after-run s (Show p x) next = refl
after-run s (Open p x until) next = refl
after-run s (Reach p x until) next = refl
after-run s (Extend d) next = refl

forget-act : (c : ℕ) (s : Gossip) (a : Act) (then : Run → Result Run Stop) (go : Gossip → Result Gossip Stop) → ((t : Gossip) → forget (go t) ≡ then t.run) → forget (gossip_act c s a >>= go) ≡ act c s.run a >>= then
forget-act c s a then go h = choose (act c s.run a) where
  choose : (r : Result Run Stop) → forget ((r >>= (λ next. Ok (gossip_after s a next))) >>= go) ≡ r >>= then
  choose (Ok next) = h (gossip_after s a next) ∙ ap then (after-run s a next)
  choose (Err stop) = refl

pub forget-each : (c : ℕ) (s : Gossip) (many : List Act) → forget (gossip_each c s many) ≡ each c s.run many
forget-each c s [] = refl
forget-each c s (a ∷ rest) = forget-act c s a (λ next. each c next rest) (λ next. gossip_each c next rest) (λ t. forget-each c t rest)

then-forget : (r : Result Gossip Stop) (then : Run → Result Run Stop) (go : Gossip → Result Gossip Stop) → ((t : Gossip) → forget (go t) ≡ then t.run) → forget (r >>= go) ≡ forget r >>= then
then-forget (Ok s) then go h = h s
then-forget (Err stop) then go h = refl

as-it-is : (r : Result Run Stop) → r >>= (λ next. Ok next) ≡ r
as-it-is (Ok run) = refl
as-it-is (Err stop) = refl

forget-point : (c : ℕ) (s : Gossip) → forget (gossip_act c s Point) ≡ act c s.run Point
forget-point c s = choose (act c s.run Point) where
  choose : (r : Result Run Stop) → forget (r >>= (λ next. Ok (gossip_after s Point next))) ≡ r
  choose (Ok next) = refl
  choose (Err stop) = refl

pub forget-play : (c : ℕ) (s : Gossip) (commands : List Command) → forget (gossip c s commands) ≡ play c s.run commands
unfolding gossip play
forget-play c s [] = forget-point c s
forget-play c s (k ∷ rest) =
    then-forget (gossip_step c s k) (λ next. play (c + 1) next rest) (λ next. gossip (c + 1) next rest) (λ t. forget-play (c + 1) t rest)
    ∙ ap (λ (r : Result Run Stop). r >>= (λ next. play (c + 1) next rest)) (forget-each c s (acts s.run k))

pub gossip-ends : (g : List Decl) (script : Script) (s : Gossip) → gossiped g script ≡ Ok s → ended g script ≡ Ok s.run
gossip-ends g script s e = sym (forget-play 1 (gossip_start g script.nodes) script.commands) ∙ ap forget e

stop-of : (r : Result Gossip Stop) (stop : Stop) → forget r ≡ Err stop → r ≡ Err stop
stop-of (Ok s) stop e = absurd cc
stop-of (Err why) stop e = let same : why ≡ stop = cc in ap (λ (w : Stop). Err w) same

pub gossip-stops : (g : List Decl) (script : Script) (stop : Stop) → gossiped g script ≡ Err stop ↔ ended g script ≡ Err stop
gossip-stops g script stop =
    let same = forget-play 1 (gossip_start g script.nodes) script.commands in
    (λ e. sym same ∙ ap forget e, λ e. stop-of (gossiped g script) stop (same ∙ e))

-- ---- acts one after the other

then-again : (r : Result Gossip Stop) (f g : Gossip → Result Gossip Stop) → (r >>= f) >>= g ≡ r >>= (λ s. f s >>= g)
then-again (Ok s) f g = refl
then-again (Err stop) f g = refl

then-alike : (r : Result Gossip Stop) (f g : Gossip → Result Gossip Stop) → ((s : Gossip) → f s ≡ g s) → r >>= f ≡ r >>= g
then-alike (Ok s) f g h = h s
then-alike (Err stop) f g h = refl

pub gossip-append : (c : ℕ) (s : Gossip) (xs ys : List Act) → gossip_each c s (xs ++ ys) ≡ gossip_each c s xs >>= (λ t. gossip_each c t ys)
gossip-append c s [] ys = refl
gossip-append c s (a ∷ xs) ys =
    then-alike (gossip_act c s a) (λ t. gossip_each c t (xs ++ ys)) (λ t. gossip_each c t xs >>= (λ u. gossip_each c u ys)) (λ t. gossip-append c t xs ys)
    ∙ sym (then-again (gossip_act c s a) (λ t. gossip_each c t xs) (λ u. gossip_each c u ys))
