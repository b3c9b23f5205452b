-- The message of a file, and what is answered of the node that takes it in.
use Rattle.std.proofs.Common.{◌≡◌, ℕ, ◌==◌, Bool, true, false, List, [], ◌∷◌, length, Option, Some, None, Result, Ok, Err, refl, sym, ap, subst, ◌∙◌, arith}
use Rattle.std.proofs.lemmas.Bool.Decides.{Decides-eqb}
use Rattle.model_graph.specs.Chain.{◌>>=◌, check, refusing}
use Rattle.model_graph.proofs.ChainLaws.{chain-passed, chain-refused}
use Rattle.model_graph.specs.Graph.{Decl, name_at}
use Rattle.model_graph.specs.Evaluation.{first_large}
use Rattle.model_graph.specs.Message.{Message}
use Rattle.model_wire.specs.Message.{decoded}
use Rattle.model_world.specs.World.{Peer, delivered}
use Rattle.model_program.specs.Merge.{may_take}
use Rattle.model_program.specs.declared.refusal.Refusal.TheVariants as shared
use Rattle.model_program.specs.declared.state_why.StateWhy.TheVariants.{WrongGraph}
use Rattle.model_site.specs.Follows.{Gives}
use Rattle.model_site.specs.Site.{state_refused, large_refused, message_taken, file_taken, state_taken}
use Rattle.model_site.specs.declared.site_refusal.SiteRefusal.{SiteRefusal}
use Rattle.model_site.specs.declared.site_refusal.SiteRefusal.TheVariants.{Shared, FileTooLarge}
use Rattle.model_site.specs.declared.site_failure.SiteFailure.{SiteFailure}
use Rattle.model_site.specs.declared.site_failure.SiteFailure.TheVariants.{Refused, ReadFault, Memory}
use Rattle.model_program.specs.Follows as program_plan
use Rattle.model_program.specs.declared.refusal.Refusal.{Refusal}
use Rattle.model_program.specs.declared.failure.Failure.{Failure}
use Rattle.model_program.specs.declared.failure.Failure.TheVariants as failures
use Rattle.lasp_call.specs.Failure as program
use Rattle.lasp_call.specs.Message.{message_refused}
use Rattle.lasp_drive.specs.Node.{NodeView}
use Rattle.lasp_site.specs.Failure.{as_site, IsRefusal}
use Rattle.lasp_site.specs.Site.{IsSiteNode}
use Rattle.lasp_site.proofs.NodeLaws.{node-held, node-learned, node-sent, node-taken, taken-low}

-- a failure that is this refusal is given where it is what is answered
pub refusal-given : {A B : Type 0} (shown : A → B) (answer : Result B SiteRefusal) (expected : SiteRefusal) (failure : SiteFailure) → answer ≡ Err expected → IsRefusal expected failure → Gives shown answer (Err failure)
refusal-given shown answer expected (Refused e) is same = is ∙ ap (λ (x : SiteRefusal). Err x) (sym same)
refusal-given shown answer expected (ReadFault f) is same = same
refusal-given shown answer expected Memory is same = tt

pub refusal-shared : (expected : Refusal) (failure : Failure) → program.IsRefusal expected failure → IsRefusal (Shared expected) (as_site failure)
refusal-shared expected (failures.Refused e) same = ap (λ (r : Refusal). Shared r) same
refusal-shared expected (failures.ReadFault f) same = same
refusal-shared expected failures.Memory same = tt

-- what `lasp` gives of a result whose refusals it says so, a site gives of it
pub message-shared : {A B E : Type 0} (shown : A → B) (refuse : E → Refusal) (r : Result B E) (failure : Failure) → program_plan.Gives shown (refusing refuse r) (Err failure) → Gives shown (refusing (λ e. Shared (refuse e)) r) (Err (as_site failure))
message-shared shown refuse (Ok b) (failures.Refused x) h = absurd cc
message-shared shown refuse (Err e) (failures.Refused x) h = let same : refuse e ≡ x = cc in ap (λ (y : Refusal). Err (Shared y)) same
message-shared shown refuse r (failures.ReadFault f) h = h
message-shared shown refuse r failures.Memory h = tt

message-read : {B E : Type 0} (refuse : E → Refusal) (r : Result B E) (b : B) → refusing refuse r ≡ Ok b → refusing (λ e. Shared (refuse e)) r ≡ Ok b
message-read {B} refuse (Ok x) b h = let same : x ≡ b = cc in ap (λ (y : B). Ok y) same
message-read refuse (Err e) b h = absurd cc

-- ---- what is answered of a message

abbrev then_small : ℕ → List Decl → ℕ → Peer → Message → Result Peer SiteRefusal
then_small p g f r m = large_refused (λ x. FileTooLarge f p (name_at g x)) (first_large 0 (delivered g m r).contents) >>= (λ _. Ok (delivered g m r))

message-checked : (p : ℕ) (g : List Decl) (f : ℕ) (r : Peer) (m : Message) → may_take g r m ≡ true → message_taken p g f r m ≡ then_small p g f r m
message-checked p g f r m taken = ap (λ (b : Bool). check b (Shared (shared.State f 0 WrongGraph)) >>= (λ _. then_small p g f r m)) taken

pub taken-wrong : (p : ℕ) (g : List Decl) (f : ℕ) (r : Peer) (m : Message) → may_take g r m ≡ false → message_taken p g f r m ≡ Err (Shared (shared.State f 0 WrongGraph))
taken-wrong p g f r m other = ap (λ (b : Bool). check b (Shared (shared.State f 0 WrongGraph)) >>= (λ _. then_small p g f r m)) other

pub taken-ok : (p : ℕ) (g : List Decl) (f : ℕ) (n new : NodeView) (m : Message) → IsSiteNode p g n → may_take g n.peer m ≡ true
    → new.peer ≡ delivered n.decls m n.peer → first_large 0 (delivered n.decls m n.peer).contents ≡ None → message_taken p g f n.peer m ≡ Ok new.peer
taken-ok p g f n new m h taken is small =
    message-checked p g f n.peer m taken
    ∙ ap (λ (o : Option ℕ). large_refused (λ x. FileTooLarge f p (name_at g x)) o >>= (λ _. Ok (delivered g m n.peer))) (ap (λ (ds : List Decl). first_large 0 (delivered ds m n.peer).contents) (sym h.graph) ∙ small)
    ∙ ap (λ (r : Peer). Ok r) (sym (is ∙ ap (λ (ds : List Decl). delivered ds m n.peer) h.graph))

pub taken-large : {A : Type 0} (shown : A → Peer) (p : ℕ) (g : List Decl) (f x : ℕ) (n : NodeView) (m : Message) (failure : SiteFailure) → IsSiteNode p g n → may_take g n.peer m ≡ true
    → first_large 0 (delivered n.decls m n.peer).contents ≡ Some x → IsRefusal (FileTooLarge f p (name_at g x)) failure → Gives shown (message_taken p g f n.peer m) (Err failure)
taken-large shown p g f x n m failure h taken large is =
    refusal-given shown (message_taken p g f n.peer m) (FileTooLarge f p (name_at g x)) failure
    (message-checked p g f n.peer m taken
    ∙ ap (λ (o : Option ℕ). large_refused (λ y. FileTooLarge f p (name_at g y)) o >>= (λ _. Ok (delivered g m n.peer))) (ap (λ (ds : List Decl). first_large 0 (delivered ds m n.peer).contents) (sym h.graph) ∙ large)) is

-- ---- what is answered of a file

file-message : (p : ℕ) (g : List Decl) (f : ℕ) (r : Peer) (bytes : List ℕ) (m : Message) → refusing (state_refused f) (decoded bytes) ≡ Ok m → file_taken p g f r bytes ≡ message_taken p g f r m
unfolding file_taken
file-message p g f r bytes m e = chain-passed (refusing (state_refused f) (decoded bytes)) (λ k. message_taken p g f r k) m e

-- the message of the file is read, and this is what is given of it
pub file-given : {A : Type 0} (shown : A → Peer) (p : ℕ) (g : List Decl) (f : ℕ) (r : Peer) (bytes : List ℕ) (m : Message) (result : Result A SiteFailure) → refusing (message_refused f) (decoded bytes) ≡ Ok m
    → Gives shown (message_taken p g f r m) result → Gives shown (file_taken p g f r bytes) result
file-given shown p g f r bytes m result e h = subst (λ (answer : Result Peer SiteRefusal). Gives shown answer result) (sym (file-message p g f r bytes m (message-read (message_refused f) (decoded bytes) m e))) h

-- the file holds no message, or memory was wanting
file-unread : {A M : Type 0} (shown : A → Peer) (told : M → Message) (p : ℕ) (g : List Decl) (f : ℕ) (r : Peer) (bytes : List ℕ) (failure : SiteFailure) → Gives told (refusing (state_refused f) (decoded bytes)) (Err failure)
    → Gives shown (file_taken p g f r bytes) (Err failure)
unfolding file_taken
file-unread shown told p g f r bytes (Refused e) h = chain-refused (refusing (state_refused f) (decoded bytes)) (λ m. message_taken p g f r m) e h
file-unread shown told p g f r bytes (ReadFault i) h = h
file-unread shown told p g f r bytes Memory h = tt

pub file-refused : {A M : Type 0} (shown : A → Peer) (told : M → Message) (p : ℕ) (g : List Decl) (f : ℕ) (r : Peer) (bytes : List ℕ) (failure : Failure) → program_plan.Gives told (refusing (message_refused f) (decoded bytes)) (Err failure)
    → Gives shown (file_taken p g f r bytes) (Err (as_site failure))
file-refused shown told p g f r bytes failure h = file-unread shown told p g f r bytes (as_site failure) (message-shared told (message_refused f) (decoded bytes) failure h)

-- ---- the site's own state

pub own-none : (p : ℕ) (g : List Decl) (f : ℕ) (r : Peer) (bytes : List ℕ) → (length bytes == 0) ≡ true → state_taken p g f r bytes ≡ Ok r
own-none p g f r [] none = refl
own-none p g f r (b ∷ bytes) none = absurd (omega (arith, (Decides-eqb (length (b ∷ bytes)) 0).0 none))

pub own-some : (p : ℕ) (g : List Decl) (f : ℕ) (r : Peer) (bytes : List ℕ) → (length bytes == 0) ≡ false → state_taken p g f r bytes ≡ file_taken p g f r bytes
own-some p g f r [] some = absurd cc
own-some p g f r (b ∷ bytes) some = refl

pub ruleset nodes = (node-held, node-learned, node-sent, node-taken, taken-low, taken-ok, taken-large, taken-wrong)
