-- What the world was offered is what the journal says was.
use Rattle.std.proofs.Common.{◌≡◌, ℕ, zero, suc, ◌<◌, List, [], ◌∷◌, ◌++◌, length, Bool, true, false, cond, Option, None, Some, refl, sym, ap, subst, ◌∙◌, arith, inl, inr, append_assoc, append-nil}
use Rattle.std.specs.Prelude.{◌==◌, ◌&&◌, ◌⊎◌, map, find, Contains, ⊤, slice_index_or}
use Rattle.std.proofs.lemmas.Option.{same_Some, option_and_then_some}
use Rattle.std.proofs.lemmas.Bool.{eqb-true, eq-eqb}
use Rattle.std.proofs.lemmas.List.{map-append}
use Rattle.std.specs.Cmp.Lexicographic.{bytes_decides}
use Rattle.norm_base.specs.Settings.{Settings}
use Rattle.norm_ext.specs.Written.{Written}
use Rattle.norm_receive_rules.specs.ReceiverState.{ReceiverState}
use Rattle.norm_receive_rules.specs.ReceiverStep.{ReceiverEvent}
use Rattle.norm_script.specs.declared.script.Line.{Line}
use Rattle.norm_send_rules.specs.SenderStep.{SenderEvent}
use Rattle.norm_send_rules.specs.SenderStep as sender
use Rattle.norm_safety.specs.Events.{Ticked, NewsAsked, Answer, Gave, Sent as Gives, Took, Told, Silent}
use Rattle.norm_safety.specs.Lawful.{WasGiven}
use Rattle.norm_safety.specs.World.{World, receiver_at, same_octets, is_of, offers}
use Rattle.norm_safety.specs.WorldStep.{OfSender, node_move, receiver_move, answered, moved}
use Rattle.norm_safety.proofs.FrontLemmas.{list_itself}
use Rattle.norm_journal.specs.declared.event.Event.{Event}
use Rattle.norm_journal.specs.declared.event.Event.TheVariants as event
use Rattle.norm_journal.specs.Accepting.{accepts, judged_from}
use Rattle.norm_journal.specs.Follows.{Follows, SendersTick, ReceiversTick}
use Rattle.norm_journal.specs.InWorld.{world_after, answer_to}
use Rattle.norm_journal.specs.Jobs.{file_of_length}
use Rattle.norm_journal.specs.Judged.{Judged, judged_opening}
use Rattle.norm_journal.specs.Laws.{octets_given, OffersAreTheWorlds}
use Rattle.norm_journal.specs.Places.{Place, Starting, Between, Pulling, Giving, Again, Sending, Offering, Taking, Handing, Over, handing, after_tick, command_due}
use Rattle.norm_journal.specs.Projections.{offer_of, offers_in}
use Rattle.norm_journal.specs.Takes.{is_receiver, after_take}
use Rattle.norm_journal.proofs.FollowLemmas.{judges_what_follows}
use Rattle.norm_journal.proofs.LawfulLemmas.{tick_gives}
use Rattle.norm_journal.proofs.NameLemmas.{both_true}

-- an answer of a node offers nothing
answered_keeps : (node : ℕ) (answer : Answer) (w : World) → (answered node answer w).0.offered ≡ w.offered
answered_keeps node (Gives None) w = refl
answered_keeps node (Gives (Some datagram)) w = refl
answered_keeps node (Gave result) w = refl
answered_keeps node (Took up) w = refl
answered_keeps node (Told news) w = refl
answered_keeps node Silent w = refl

receiver_keeps : (p : Settings) (w : World) (o : Option ReceiverState) (e : ReceiverEvent) → (moved p w (receiver_move o e)).0.offered ≡ w.offered
receiver_keeps p w None e = refl
receiver_keeps p w (Some r) e = answered_keeps r.node _ _

sender_keeps : (p : Settings) (w : World) (e : SenderEvent) → (moved p w (OfSender e)).0.offered ≡ w.offered
sender_keeps p w e = answered_keeps p.sender _ _

node_keeps : (b : Bool) (p : Settings) (w : World) (o : Option ReceiverState) (own : SenderEvent) (e : ReceiverEvent)
    → (moved p w (node_move b o own e)).0.offered ≡ w.offered
node_keeps true p w o own e = sender_keeps p w own
node_keeps false p w o own e = receiver_keeps p w o e

abbrev offered_in : Judged → List (ℕ × Written)
offered_in j = j.world.offered

-- who a taken datagram is for
abbrev one_of : Bool → Bool → Judged → Judged → Judged → Judged
one_of sender receiver j a b = elim sender [ true ↦ a | false ↦ elim receiver [ true ↦ b | false ↦ j ] ]

delivered_keeps : (sender receiver : Bool) (j a b : Judged) → offered_in a ≡ offered_in j → offered_in b ≡ offered_in j
    → offered_in (one_of sender receiver j a b) ≡ offered_in j
delivered_keeps true receiver j a b x y = x
delivered_keeps false true j a b x y = y
delivered_keeps false false j a b x y = refl

-- a datagram that was given is found among those that were
abbrev given_list : List (ℕ × Written) → ℕ → List ℕ → Option (ℕ × Written)
given_list given node octets = find (is_of node octets) given

record IsFound (node : ℕ) (octets : List ℕ) (found : Option (ℕ × Written)) : Type 0 where
  datagram : ℕ × Written
  found_is : found ≡ Some datagram
  same : octets_given datagram ≡ (node, octets)

clash : false ≡ true → ⊥
clash e = cc

its_octets : (g : ℕ × Written) (node : ℕ) (octets : List ℕ) → is_of node octets g ≡ true → octets_given g ≡ (node, octets)
its_octets g node octets e = by_node (g.0 == node) refl e where
  by_node : (b : Bool) → (g.0 == node) ≡ b → (b && same_octets g.1.octets octets) ≡ true → octets_given g ≡ (node, octets)
  by_node true is same =
      ap (λ (n : ℕ). (n, g.1.octets)) (eqb-true g.0 node is) ∙ ap (λ (o : List ℕ). (node, o)) ((bytes_decides g.1.octets octets).0 same)
  by_node false is same = absurd (clash same)

itself_is : (node : ℕ) (datagram : Written) (octets : List ℕ) → datagram.octets ≡ octets → is_of node octets (node, datagram) ≡ true
itself_is node datagram octets same = both_true (node == node) (same_octets datagram.octets octets) (eq-eqb node node refl)
    (ap (λ o. same_octets datagram.octets o) (sym same) ∙ list_itself datagram.octets)

-- a datagram that stands in a list is found at its head, or behind it
find_by : (g : ℕ × Written) (given : List (ℕ × Written)) (node : ℕ) (datagram : Written) (octets : List ℕ) (b : Bool) → is_of node octets g ≡ b
    → datagram.octets ≡ octets → (k : ℕ) → k < suc (length given) → slice_index_or (g ∷ given) k (node, datagram) ≡ (node, datagram)
    → ((i : ℕ) → i < length given → slice_index_or given i (node, datagram) ≡ (node, datagram) → IsFound node octets (given_list given node octets))
    → IsFound node octets (cond b (Some g) (given_list given node octets))
find_by g given node datagram octets true test same k within is later = record { datagram = g; found_is = refl; same = its_octets g node octets test }
find_by g given node datagram octets false test same zero within is later =
    absurd (clash (sym test ∙ ap (is_of node octets) is ∙ itself_is node datagram octets same))
find_by g given node datagram octets false test same (suc k) within is later = later k (omega (arith, within)) is

find_given : (given : List (ℕ × Written)) (node : ℕ) (datagram : Written) (octets : List ℕ) → datagram.octets ≡ octets → (k : ℕ) → k < length given
    → slice_index_or given k (node, datagram) ≡ (node, datagram) → IsFound node octets (given_list given node octets)
find_given [] node datagram octets same k within is = absurd (omega (arith, within))
find_given (g ∷ given) node datagram octets same k within is =
    find_by g given node datagram octets (is_of node octets g) refl same k within is (λ i less there. find_given given node datagram octets same i less there)

found_given : (w : World) (node : ℕ) (octets : List ℕ) → WasGiven w node octets → IsFound node octets (given_list w.given node octets)
found_given w node octets was = find_given w.given node was.0 octets was.2 was.1.0 was.1.1 was.1.2

offer_adds : (w : World) (node : ℕ) (octets : List ℕ) (found : Option (ℕ × Written)) → IsFound node octets found
    → map octets_given (offers found node w).offered ≡ map octets_given w.offered ++ (node, octets) ∷ []
offer_adds w node octets found is =
    ap (λ o. map octets_given (offers o node w).offered) is.found_is
    ∙ map-append octets_given w.offered (is.datagram ∷ [])
    ∙ ap (λ (g : ℕ × List ℕ). map octets_given w.offered ++ g ∷ []) is.same

-- a place that needs no datagram
abbrev IsFree : Place → Type 0
IsFree (Offering node datagram next) = ⊥
IsFree _ = ⊤

-- a datagram that is to be offered was given
abbrev IsGiven : Place → World → Type 0
IsGiven (Offering node octets next) w = WasGiven w node octets × IsFree next
IsGiven _ w = ⊤

free_given : (place : Place) (w : World) → IsFree place → IsGiven place w
free_given (Offering node octets next) w free = absurd free
free_given _ w free = tt

handing_free : (nodes : List ℕ) → IsFree (handing nodes)
handing_free [] = tt
handing_free (node ∷ nodes) = tt

due_free : (j : Judged) → IsFree (command_due j.waiting j.left)
due_free j = by_due j.waiting j.left where
  by_due : (w : Option Line) (lines : List Line) → IsFree (command_due w lines)
  by_due (Some line) lines = tt
  by_due None [] = tt
  by_due None (line ∷ lines) = tt

after_take_free : (b : Bool) (taken : ℕ) (nodes : List ℕ) → IsFree (elim b [ true ↦ handing nodes | false ↦ Taking taken ])
after_take_free true taken nodes = handing_free nodes
after_take_free false taken nodes = tt

after_free : (j : Judged) (node : ℕ) (after : Place) → SendersTick j node after ⊎ ReceiversTick j node after → IsFree after
after_free j node after (inl s) = subst IsFree (sym s.after_is) tt
after_free j node after (inr r) = subst IsFree (sym r.after_is) (handing_free r.nodes)

tick_given : (j : Judged) (node : ℕ) (o : Option Written) (next : Place) → answer_to (Ticked node j.now) j ≡ Gives o → IsFree next
    → IsGiven (after_tick node o next) (world_after (Ticked node j.now) j).world
tick_given j node None next is free = free_given next _ free
tick_given j node (Some datagram) next is free = ((datagram, tick_gives j node datagram is, refl), free)

-- what a journal's event adds to the offers, and that the next offer is of what was given
record Adds (j next : Judged) (e : Event) : Type 0 where
  offered : map octets_given next.world.offered ≡ map octets_given j.world.offered ++ offer_of e
  given : IsGiven next.place next.world

keeps : (j next x : Judged) (e : Event) (place : Place) → next ≡ x → offer_of e ≡ [] → offered_in x ≡ offered_in j → x.place ≡ place → IsFree place → Adds j next e
keeps j next x e place then none same here free = record {
  offered =
      ap (λ (y : Judged). map octets_given y.world.offered) then
      ∙ ap (map octets_given) same
      ∙ sym (append-nil (map octets_given j.world.offered))
      ∙ ap (λ more. map octets_given j.world.offered ++ more) (sym none);
  given = subst (λ (y : Judged). IsGiven y.place y.world) (sym then) (subst (λ p. IsGiven p x.world) (sym here) (free_given place x.world free));
}

-- where hand-ups or changes are told, what was given stays
stays_given : (place : Place) (v w : World) → w.given ≡ v.given → IsGiven place v → IsGiven place w
stays_given (Offering node datagram next) v w same is = ((is.0.0, subst (λ g. Contains g (node, is.0.0)) (sym same) is.0.1, is.0.2), is.1)
stays_given Starting v w same is = tt
stays_given Between v w same is = tt
stays_given Pulling v w same is = tt
stays_given (Giving line) v w same is = tt
stays_given (Again line) v w same is = tt
stays_given Sending v w same is = tt
stays_given (Taking taken) v w same is = tt
stays_given (Handing node nodes) v w same is = tt
stays_given Over v w same is = tt

follows_offers : (j next : Judged) (e : Event) → Follows j e next → IsGiven j.place j.world → Adds j next e
follows_offers j next event.Start f given = keeps j next _ event.Start Between f.1.then refl refl refl tt
follows_offers j next (event.Turn turn now) f given = keeps j next _ (event.Turn turn now) (command_due j.waiting j.left) f.1.then refl refl refl (due_free j)
follows_offers j next (event.Pull by) f given = keeps j next _ (event.Pull by) (Giving f.1.line) f.1.then refl refl refl tt
follows_offers j next (event.Job by told gave) f given =
    keeps j next _ (event.Job by told gave) Sending f.1.then refl (sender_keeps j.profile j.world (sender.Commanded by f.1.job j.now)) refl tt
follows_offers j next (event.Length by name len fault) f given =
    keeps j next _ (event.Length by name len fault) Sending f.1.then refl
    (sender_keeps j.profile j.world (sender.Commanded by (file_of_length name len) j.now)) refl tt
follows_offers j next (event.Tick node said) f given = record {
  offered =
      ap (λ (y : Judged). map octets_given y.world.offered) f.1.then
      ∙ ap (map octets_given) (node_keeps (node == j.profile.sender) j.profile j.world (receiver_at j.world node) _ _)
      ∙ sym (append-nil (map octets_given j.world.offered));
  given = subst (λ (y : Judged). IsGiven y.place y.world) (sym f.1.then)
      (tick_given j node f.1.datagram f.1.after f.1.gives (after_free j node f.1.after f.1.due));
}
follows_offers j next (event.Offer from octets) f given =
    let was = subst (λ p. IsGiven p j.world) f.1.place given in
    record {
      offered =
          ap (λ (y : Judged). map octets_given y.world.offered) f.1.then
          ∙ offer_adds j.world from octets (given_list j.world.given from octets) (found_given j.world from octets was.0);
      given = subst (λ (y : Judged). IsGiven y.place y.world) (sym f.1.then) (free_given f.1.after _ was.1);
    }
follows_offers j next (event.Took to octets) f given =
    keeps j next _ (event.Took to octets) (after_take f.1.count j) f.1.then refl
    (delivered_keeps (to == j.profile.sender) (is_receiver j to) j _ _
    (node_keeps (to == j.profile.sender) j.profile j.world (receiver_at j.world to) _ _)
    (node_keeps (to == j.profile.sender) j.profile j.world (receiver_at j.world to) _ _))
    refl (after_take_free _ _ j.nodes)
follows_offers j next event.Empty f given = keeps j next _ event.Empty (handing j.nodes) f.1.then refl refl refl (handing_free j.nodes)
follows_offers j next (event.Up node instance up) f given =
    keeps j next _ (event.Up node instance up) (Handing node f.1.nodes) f.1.then refl (receiver_keeps j.profile j.world (receiver_at j.world node) _) f.1.place tt
follows_offers j next (event.News news) f given = record {
  offered = ap (λ (y : Judged). map octets_given y.world.offered) f.then ∙ sym (append-nil (map octets_given j.world.offered));
  given = subst (λ (y : Judged). IsGiven y.place y.world) (sym f.then) (stays_given j.place j.world (world_after NewsAsked j).world refl given);
}
follows_offers j next event.End f given = keeps j next _ event.End Over f.1.then refl refl refl tt

offers_from : (events : List Event) (j last : Judged) → IsGiven j.place j.world → judged_from j events ≡ Some last
    → map octets_given last.world.offered ≡ map octets_given j.world.offered ++ offers_in events
unfolding judged_from
offers_from [] j last given is =
    ap (λ (y : Judged). map octets_given y.world.offered) (sym (same_Some j last is)) ∙ sym (append-nil (map octets_given j.world.offered))
offers_from (e ∷ events) j last given is =
    option_and_then_some (λ next. judged_from next events) (accepts j e) last is (λ next comes more.
    let adds = follows_offers j next e ((judges_what_follows j next e).0 comes) given in
    offers_from events next last adds.given more
    ∙ ap (λ front. front ++ offers_in events) adds.offered
    ∙ append_assoc (map octets_given j.world.offered) (offer_of e) (offers_in events))

pub offers_are_the_worlds : OffersAreTheWorlds
offers_are_the_worlds script files nodes events last is = offers_from events (judged_opening script files nodes) last tt is
