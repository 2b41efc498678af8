-- The theorems about the definitions, by name. Each says its sentence; the argument is in the module that is cited.
use mathlib.Core.Path.{◌≡◌, sym, ap, ◌∙◌}
use mathlib.Core.Logic.{◌↔◌, ◌⊎◌}
use Prim.Native.Nat.{ℕ, suc, ◌+◌, ◌-◌, ◌*◌, ◌≤◌, ◌<◌}
use native.Mathlib.Omega.{arith}
use mathlib.Core.Bool.{Bool, true, false, ◌&&◌}
use mathlib.Core.List.{List, [], ◌∷◌, ◌++◌}
use lib.Dec.{ltb, eqb}
use borrow.Author.Tests.{eq-eqb, ne_eqb}
use lib.ListN.{length, get_or, drop}
use Rattle.std.specs.Prelude.{if◌then◌else◌}
use Rattle.model.specs.Key.{clockwise}
use Rattle.model.specs.Sets.{Set, empty, without, count, none_node}
use Rattle.model.specs.Leafset.{Table, size, key, leafset, beats, nearest}
use Rattle.model.specs.Ring.{Own, Message, Ring, initial, is_running, message_at, sent_by}
use Rattle.model.specs.Types.{types}
use Rattle.model.specs.Steps.{step_by_type}
use Rattle.model.specs.WellFormed.{WellFormedTable, WellFormed, Each}
use Rattle.model.specs.Words.{ring_length, belongs, word_at, encode, decode, senders_fit, reads_as_ring, size_in, count_in}
use Rattle.model.specs.Answers.{is_accepted}
use Rattle.model.specs.Events.{word_of, event_answer, same_node, write_event, read_event, reading_of}
use Rattle.model.specs.Play.{after, actor, refusals, play_answer, play_word, play_all}
use Rattle.model.specs.Buffer.{ring_answer, open_buffer, play_buffer, play_buffer_all}
use Rattle.model.specs.Questions.{leafset_answer, leafset_of, connection_answer, connection_of, groups_of}
use Rattle.model.specs.Route.{next_of, goes_on, route, Converged, route_answer, route_buffer}
use Rattle.model.specs.Reach.{spans, here, one_more, owner, next, reach, to_last, reach_answer, reach_of}
use Rattle.model.specs.Preview.{preview_buffer, Call, PreviewsChangeNothing}
use Rattle.model.specs.Short.{shortened, lengthened, reads_as_short, shorten_buffer, lengthen_buffer}
use Rattle.model.specs.Screens.{conductor_of, messages_of, Alike}
use Rattle.model.specs.Connection.{Connected, connected, groups, CountsGroups}
use Rattle.model.specs.Listener.{Listener, empty_listener, grown, silent, answer_of, notices_of, leaves, listener_of, empty_record, after_record}
use Rattle.model.specs.Listener.{met, tick_at, ticks_between, notice_at, watched_before, hearing_at, Unheard, notices_between, noticed_before}
use Rattle.model.specs.Listener as listener
use Rattle.model.specs.Join.{join, join_buffer, Joinable, FromOneRing, first_part, second_part}
use Rattle.model.specs.ConnectivityPreserved.{Reached, opened, joined, Unbroken, ConnectivityPreserved}
use Rattle.model.specs.declared.event.Event.{Event}
use Rattle.model.specs.declared.event.Event.TheVariants.{Deliver, Lose}
use Rattle.std.specs.Prelude.{Ok}
use Rattle.model.proofs.Events as events
use Rattle.model.proofs.LeafsetSize.{TwoSides}
use Rattle.model.proofs.LeafsetSize as type_size
use Rattle.model.proofs.Questions.{LeafsetAsked, ConnectionAsked, GroupsAsked}
use Rattle.model.proofs.Questions as questions
use Rattle.model.proofs.Types.{TypesUse}
use Rattle.model.proofs.Types as typed
use Rattle.model.proofs.Short as short
use Rattle.model.proofs.Words as words
use Rattle.model.proofs.RoundTrip as trip
use Rattle.model.proofs.Fits as fits
use Rattle.model.proofs.Decoded as decoded
use Rattle.model.proofs.Follows as follow
use Rattle.model.proofs.Connection as connection
use Rattle.model.proofs.Groups as grouped
use Rattle.model.proofs.Routes.{Hop, GivenRoute}
use Rattle.model.proofs.Routes as routes
use Rattle.model.proofs.Choices.{Met}
use Rattle.model.proofs.Reaches.{Present}
use Rattle.model.proofs.Reaches as reaches
use Rattle.model.proofs.Previews as previewed
use Rattle.model.proofs.Echoes.{EchoLeaves, AlikeButFull}
use Rattle.model.proofs.Echoes as echoes
use Rattle.model.proofs.Screens as screens
use Rattle.model.proofs.Listeners as listeners
use Rattle.model.proofs.Joins as joins
use Rattle.model.proofs.WellFormedPlay as play-well
use Rattle.model.proofs.SenderBound.{names_position}
use Rattle.model.proofs.SenderBound as bound
use Rattle.model.proofs.JoinedGroups as joined-groups
use Rattle.model.proofs.Parted as parted
use Rattle.model.proofs.ConnectivityPreserved as preserved
use Rattle.model.proofs.Unreached as unreached
-- "The lowest number that applies is given, and none otherwise", at each call: their statements are in Lowest
pub use Rattle.model.proofs.Lowest.{lowest_at_writing, lowest_at_reading, lowest_at_opening, lowest_at_playing, lowest_at_previewing}
pub use Rattle.model.proofs.Lowest.{lowest_at_leafset, lowest_at_connection, lowest_at_ring, lowest_at_routing, lowest_at_reaching}
pub use Rattle.model.proofs.Lowest.{lowest_at_joining, lowest_at_watching, lowest_at_hearing, lowest_at_shortening, lowest_at_lengthening}
pub use Rattle.model.proofs.Lowest.{lowest_at_script}

-- ---- event words

-- every event that can be written has a word, which reads as that event
pub written_reads : (e : Event) → event_answer e ≡ 0 → read_event (write_event e) ≡ reading_of (Ok e)
unfolding write_event
written_reads e a = ap (λ (b : Bool). read_event (if b then word_of e else 0)) (ap is_accepted a) ∙ events.reads e a

-- every word that reads as an event is the word of it: so it has one word
pub one_word : (w : ℕ) (e : Event) → read_event w ≡ reading_of (Ok e) → w ≡ word_of e
one_word w e h = (events.reads_as w e h).word

-- and two events that can be written have different words: a word reads as one event and no other
pub no_other : (d e : Event) → event_answer d ≡ 0 → event_answer e ≡ 0 → word_of d ≡ word_of e → d ≡ e
no_other d e a b i = events.no_other d e a b i

-- ---- leafsets

-- "the A nearest clockwise and the B nearest the other way": where A + B nodes are left, the leafset is two sides without a
-- common node, one of exactly A nodes and one of exactly B, and these are nearer on their way than any other that is left.
pub leafset_sides :
    (t : Table) → WellFormedTable t → (x : ℕ) → x < size t → (S : Set)
    → t.sides.ahead + t.sides.behind ≤ count (size t) (without S x)
    → TwoSides t x S
leafset_sides t g x h S enough = type_size.leafset_sides t g x h S enough

-- so it has exactly A + B nodes
pub leafset_size :
    (t : Table) → WellFormedTable t → (x : ℕ) → x < size t → (S : Set)
    → t.sides.ahead + t.sides.behind ≤ count (size t) (without S x)
    → count (size t) (leafset t x S) ≡ t.sides.ahead + t.sides.behind
leafset_size t g x h S enough = type_size.leafset_size t g x h S enough

-- ---- the ring's words

-- what each message type uses, as document 01 says it
pub types_use : TypesUse
types_use = typed.types_use

-- and each has a step
pub types_step : (t : Table) (me now : ℕ) (o : Own) (m : Message) → length (step_by_type t me now o m) ≡ types
types_step t me now o m = typed.types_step t me now o m

-- words that read as a ring are the encoding of what they decode to, which is well-formed
pub reads_back : (ws : List ℕ) → reads_as_ring ws ≡ true → ws ≡ encode (decode ws)
reads_back ws e = words.decoded_back ws e

pub reads_well_formed : (ws : List ℕ) → reads_as_ring ws ≡ true → WellFormed (decode ws)
reads_well_formed ws e = decoded.reads_well ws e

-- a well-formed ring's encoding reads as a ring, and as that ring
pub encoding_reads : (r : Ring) → WellFormed r → reads_as_ring (encode r) ≡ true
encoding_reads r g = fits.encoded_reads r g

pub encoding_decodes : (r : Ring) → WellFormed r → decode (encode r) ≡ r
encoding_decodes r g = trip.round_trip r g

-- two well-formed rings with equal words are equal
pub encoding_injective : (r s : Ring) → WellFormed r → WellFormed s → encode r ≡ encode s → r ≡ s
encoding_injective r s g h e = sym (trip.round_trip r g) ∙ ap decode e ∙ trip.round_trip s h

-- ---- the calls

-- an accepted opening writes the encoding of the initial ring, which reads as a ring
pub opening_writes : (old : List ℕ) (t : Table) → (open_buffer old t).answer ≡ 0 → (open_buffer old t).words ≡ encode (initial t)
opening_writes old t a = follow.opened_words old t a

pub opening_reads : (old : List ℕ) (t : Table) → (open_buffer old t).answer ≡ 0 → reads_as_ring (open_buffer old t).words ≡ true
opening_reads old t a = ap reads_as_ring (follow.opened_words old t a) ∙ fits.encoded_reads (initial t) (follow.opened_well old t a)

-- every call leaves words that read as a ring, on any words that read as one, reachable or not
pub playing_reads : (ws : List ℕ) (w : ℕ) → reads_as_ring ws ≡ true → reads_as_ring (play_buffer ws w).words ≡ true
playing_reads ws w e = follow.still_reads ws w e

-- "nothing is written" by a refused call
pub refused_opening : (ws : List ℕ) (t : Table) → is_accepted (open_buffer ws t).answer ≡ false → (open_buffer ws t).words ≡ ws
unfolding open_buffer
refused_opening ws t e = rw e

pub refused_playing : (ws : List ℕ) (w : ℕ) → is_accepted (play_buffer ws w).answer ≡ false → (play_buffer ws w).words ≡ ws
unfolding play_buffer
refused_playing ws w e = rw e

-- the leafset question about a well-formed ring: its answer, and the bits of a running node's leafset; no node for any other number
pub leafset_asked : (r : Ring) → WellFormed r → (x : ℕ) → LeafsetAsked r x
leafset_asked r g x = questions.leafset_asked r g x

-- the connection question: its answer, and yes exactly where the two are `Connected`
pub connection_asked : (r : Ring) → WellFormed r → (a b : ℕ) → ConnectionAsked r a b
connection_asked r g a b = questions.connection_asked r g a b

-- the number of groups: it is answered, and counts the classes of `Connected`
pub groups_asked : (r : Ring) → WellFormed r → GroupsAsked r
groups_asked r g = questions.groups_asked r g

-- "A refused leafset question returns the empty set, a connection question no", whatever the words; and there are no groups
pub refused_leafset : (ws : List ℕ) (x : ℕ) → is_accepted (leafset_answer ws x) ≡ false → leafset_of ws x ≡ 0
unfolding leafset_of
refused_leafset ws x e = rw e

pub refused_connection : (ws : List ℕ) (a b : ℕ) → is_accepted (connection_answer ws a b) ≡ false → connection_of ws a b ≡ false
unfolding connection_of
refused_connection ws a b e = rw e

pub refused_groups : (ws : List ℕ) → is_accepted (ring_answer ws) ≡ false → groups_of ws ≡ 0
unfolding groups_of
refused_groups ws e = rw e

-- ---- connection

-- the computed test is true exactly where a path of document 01's steps exists
pub connected_decides : (ws : List ℕ) → reads_as_ring ws ≡ true → (a b : ℕ) → (connected (decode ws) a b ≡ true) ↔ Connected (decode ws) a b
connected_decides ws e a b = connection.decides (decode ws) a (λ x h. ((decoded.reads_well ws e).node_well x).running_low h) b

-- the number of groups is that of the classes of `Connected`: each running node is connected to exactly one of the counted
pub groups_are_classes : (r : Ring) → WellFormed r → CountsGroups r (groups r)
groups_are_classes r g = grouped.counts_groups r (λ x h. (g.node_well x).running_low h)

-- "0 if none runs", and only then
pub no_groups : (r : Ring) → WellFormed r → (groups r ≡ 0) ↔ ((x : ℕ) → is_running r x ≡ false)
no_groups r g = grouped.none_run r (λ x h. (g.node_well x).running_low h)

-- ---- routes

-- nearness to a key orders nodes: nobody beats itself, who beats one that beats another beats that one too, and of two with different
-- keys one beats the other
pub beats_irreflexive : (t : Table) (a y : ℕ) → beats t a y y ≡ false
beats_irreflexive t a y = routes.beats_irreflexive t a y

pub beats_transitive : (t : Table) (a x y z : ℕ) → beats t a x y ≡ true → beats t a y z ≡ true → beats t a x z ≡ true
beats_transitive t a x y z = routes.beats_transitive t a x y z

pub beats_total : (t : Table) (a y z : ℕ) → key t y < 16777216 → key t z < 16777216 → a < 16777216 → ¬ (key t y ≡ key t z)
    → (beats t a y z ≡ true) ⊎ (beats t a z y ≡ true)
beats_total t a y z = routes.beats_total t a y z

-- "A refused route answers 0 hops and stand 64, and the list is untouched."
pub refused_routing : (ws : List ℕ) (start a : ℕ) (list : List ℕ) → is_accepted (route_answer ws start a list) ≡ false
    → route_buffer ws start a list ≡ record { answer = route_answer ws start a list; end = none_node; hops = 0; list = list }
unfolding route_buffer
refused_routing ws start a list e = rw e

-- "The route's stands, the start first and the end last, are written in order to a lent list .. Hops are at most n − 1. .. Unused places in
-- the list are not written."
pub accepted_routing : (ws : List ℕ) (start a : ℕ) (list : List ℕ) → route_answer ws start a list ≡ 0
    → GivenRoute (size (decode ws).table) start list (route_buffer ws start a list)
accepted_routing ws start a list ok = routes.given_route ws start a list ok

-- "The rest of the route is the route from the next stand."
pub route_from : (r : Ring) (a x : ℕ) → route r a x ≡ x ∷ (if goes_on r a x then route r a (next_of r a x) else [])
route_from r a x = routes.route_from r a x

-- "Hops are at most n − 1."
pub route_short : (r : Ring) (a x : ℕ) → x < size r.table → length (route r a x) ≤ size r.table
route_short r a x h = routes.route_short r a x h

-- each node of a route but the first is held by the one before, runs, and is nearer to the key
pub route_falls : (r : Ring) (a x i : ℕ) → suc i < length (route r a x) → Hop r a (get_or (route r a x) i none_node) (get_or (route r a x) (suc i) none_node)
route_falls r a x i h = routes.route_falls r a x i h

-- no node stands at two places of a route
pub route_once : (r : Ring) (a x i j : ℕ) → i < length (route r a x) → j < length (route r a x)
    → get_or (route r a x) i none_node ≡ get_or (route r a x) j none_node → i ≡ j
route_once r a x i j h k e = routes.route_once r a x i j h k e

-- "When every running stand holds exactly its leafset of all running stands, the route ends at the nearest running stand of all":
-- whatever A and B, the key and the start
pub route_ends_nearest : (r : Ring) → WellFormed r → Converged r → (a : ℕ) → a < 16777216 → (x : ℕ) → is_running r x ≡ true
    → get_or (route r a x) (length (route r a x) - 1) none_node ≡ nearest r.table a (is_running r)
route_ends_nearest r g c a h x e = routes.route_ends_nearest r g c a h x e

-- ---- reaches

-- "A refused reach answers 0 hops and stand 64."
pub refused_reach : (ws : List ℕ) (start a : ℕ) → is_accepted (reach_answer ws start a) ≡ false
    → reach_of ws start a ≡ record { answer = reach_answer ws start a; end = none_node; hops = 0 }
unfolding reach_of
refused_reach ws start a e = rw e

-- an accepted one answers where the reach ends, and its hops: "counted in its answer"
pub reach_answers : (ws : List ℕ) (start a : ℕ) → reach_answer ws start a ≡ 0
    → reach_of ws start a ≡ record { answer = 0; end = (reach (decode ws) a start).end; hops = (reach (decode ws) a start).hops }
reach_answers ws start a ok = reaches.given_reach ws start a ok

-- "A reach .. always ends at the owner."
pub accepted_reach : (ws : List ℕ) (start a : ℕ) → reach_answer ws start a ≡ 0 → (reach_of ws start a).end ≡ owner (decode ws) a
accepted_reach ws start a ok = reaches.given_end ws start a ok

-- "A reach makes at most 25 hops"
pub reach_hops : (ws : List ℕ) (start a : ℕ) → reach_answer ws start a ≡ 0 → (reach_of ws start a).hops ≤ 25
reach_hops ws start a ok = omega (arith, reaches.given_hops ws start a ok)

-- and never as many
pub reach_hops_24 : (ws : List ℕ) (start a : ℕ) → reach_answer ws start a ≡ 0 → (reach_of ws start a).hops ≤ 24
reach_hops_24 ws start a ok = reaches.given_hops ws start a ok

-- the table's rule: it starts with 1, and each span is twice the one before
pub first_span : get_or spans 0 0 ≡ 1
first_span = reaches.first_span

pub spans_double : (i : ℕ) → i < 23 → get_or spans (i + 1) 0 ≡ 2 * get_or spans i 0
spans_double i h = reaches.doubles i h

-- the owner of a key runs, and no running node is met before it
pub owner_is : (r : Ring) → WellFormed r → (a : ℕ) → a ≤ 16777215 → (x : ℕ) → is_running r x ≡ true
    → Met r.table clockwise a (is_running r) (owner r a)
owner_is r g a h x e = reaches.owner_met r g a h x e

-- "A reach stops at the owner. Otherwise it goes" on, and the rest is the reach from the next node
pub reach_from : (r : Ring) → WellFormed r → (a : ℕ) → a ≤ 16777215 → (x : ℕ) → is_running r x ≡ true
    → reach r a x ≡ (if eqb x (owner r a) then here x else one_more (reach r a (next r a x)))
reach_from r g a h x e = reaches.reach_from r g a h x e

-- each hop but the last more than halves the way to the last running node before the key
pub reach_halves : (r : Ring) → WellFormed r → (a : ℕ) → a ≤ 16777215 → (x : ℕ) → Present r a x
    → (next r a x ≡ owner r a) ⊎ (2 * to_last r a (next r a x) < to_last r a x)
reach_halves r g a h x p = reaches.reach_halves r g a h x p

-- and goes over the greatest span that is not above that way, to the first running node from there on
pub reach_hop : (r : Ring) → WellFormed r → (a : ℕ) → a ≤ 16777215 → (x : ℕ) → Present r a x
    → (i : ℕ) → i < 24 → get_or spans i 0 ≤ to_last r a x → to_last r a x < 2 * get_or spans i 0
    → reaches.Hop r a x (get_or spans i 0)
reach_hop r g a h x p i l from below = reaches.hop r g a h x p i l from below

-- ---- previews

-- "a second buffer of wrong length is refusal 1"
pub preview_length : (ws : List ℕ) (w : ℕ) (second : List ℕ) → ¬ (length second ≡ ring_length) → (preview_buffer ws w second).answer ≡ 1
preview_length ws w second d = previewed.wrong_length_lem ws w second (ne_eqb (length second) ring_length d)

-- "It gives the answer that the event would get."
pub preview_answers : (ws : List ℕ) (w : ℕ) (second : List ℕ) → length second ≡ ring_length → (preview_buffer ws w second).answer ≡ (play_buffer ws w).answer
preview_answers ws w second h = previewed.answers_as_playing ws w second (eq-eqb (length second) ring_length h)

-- "If accepted, the second buffer holds what the event would leave": answer and words are those of playing, which is accepted too
pub accepted_preview : (ws : List ℕ) (w : ℕ) (second : List ℕ) → (preview_buffer ws w second).answer ≡ 0 → preview_buffer ws w second ≡ play_buffer ws w
accepted_preview ws w second a = previewed.accepted_as_playing ws w second a

-- "A refused preview writes neither"
pub refused_preview :
    (ws : List ℕ) (w : ℕ) (second : List ℕ) → is_accepted (preview_buffer ws w second).answer ≡ false → (preview_buffer ws w second).words ≡ second
unfolding preview_buffer
refused_preview ws w second e = rw e

-- what an accepted preview shows reads as a ring, and is a reached one where the ring was: events can be played and previewed on from it
pub preview_reads : (ws : List ℕ) (w : ℕ) (second : List ℕ) → (preview_buffer ws w second).answer ≡ 0 → reads_as_ring (preview_buffer ws w second).words ≡ true
preview_reads ws w second a = previewed.preview_reads ws w second a

pub preview_reached : (ws : List ℕ) (r : Ring) → Reached ws r → (w : ℕ) (second : List ℕ) → (preview_buffer ws w second).answer ≡ 0
    → Reached (preview_buffer ws w second).words (play_word r w).ring
preview_reached ws r p w second a = previewed.preview_reached ws w second a p

-- "Previews inserted in a list of events change no later answer": lists of any length, refused calls included, on any words, each
-- preview with any second buffer
pub previews_change_nothing : (ws : List ℕ) (calls : List Call) → PreviewsChangeNothing ws calls
previews_change_nothing ws calls = previewed.change_nothing ws calls

-- ---- echoes

-- "delivers and leaves the message in its position": all messages that were in flight are where they were; the message lost after it, the ring is
-- the one that a delivery leaves
pub echo_leaves : (r : Ring) (i : ℕ) → i < length r.messages → EchoLeaves r i
echo_leaves r i h = echoes.echo_leaves r i h

-- "Refusal 11 counts the message that stays": no other answer tells an echo from a delivery
pub echo_answers : (r : Ring) → WellFormed r → (i : ℕ) → i < 1024
    → AlikeButFull (play_answer r (word_of (Deliver i true))) (play_answer r (word_of (Deliver i false)))
echo_answers r g i h = echoes.echo_answers r g i h

-- an echo to a node that is off leaves the ring
pub echo_to_off : (r : Ring) (i : ℕ) → is_running r (message_at r i).receiver ≡ false → after r (Deliver i true) ≡ r
echo_to_off r i off = echoes.echo_to_off r i off

-- ---- the bound of a sender

-- "No sender may have more than 256 messages travelling.": no event passes it, and "A join that would read otherwise can't arise"
pub senders_bounded : (r : Ring) (words : List ℕ) → WellFormed r → (x : ℕ) → x < size (play_all r words).table → sent_by x (play_all r words).messages ≤ 256
senders_bounded r words g = (play-well.words_well r words g).senders_few

pub join_bounded : (r s : Ring) → WellFormed r → WellFormed s → Joinable r s
    → (x : ℕ) → x < size (join r s).table → sent_by x (join r s).messages ≤ 256
join_bounded r s g h may = (joins.joined_well r s g h may).senders_few

-- "17, the acting or answering stand would have more than 256 travelling": where no refusal before 11 applies, whether 17 does is that node's count
pub actor_passes : (r : Ring) (e : Event) → WellFormed r → same_node e ≡ false → Each (λ q. q.applies ≡ false) (refusals r e)
    → senders_fit (after r e) ≡ false → 256 < sent_by (actor r e) (after r e).messages
actor_passes r e g d p f = bound.actor_passes r e g d p f

-- "Losing a message makes its place free for the sender": an event, other than a delivery, that would leave one too many of its node's is
-- accepted once one of these is lost
pub lost_frees : (r : Ring) (e : Event) → WellFormed r → event_answer e ≡ 0 → names_position e ≡ false
    → (i : ℕ) → i < length r.messages → (message_at r i).sender ≡ actor r e
    → play_answer r (word_of e) ≡ 17 → sent_by (actor r e) (after r e).messages ≡ 257 → play_answer (after r (Lose i)) (word_of e) ≡ 0
lost_frees r e g a p i h own is one_more = bound.lost_frees r e g a p i h own is one_more

-- ---- screens

-- "The conductor's answer must be alike for any two valid rings that agree in A, B, table, running marks and held sets."
pub alike_shows_alike : (ws vs : List ℕ) → reads_as_ring ws ≡ true → reads_as_ring vs ≡ true → Alike (decode ws) (decode vs) → conductor_of ws ≡ conductor_of vs
alike_shows_alike ws vs e f a = screens.alike_shows_alike ws vs e f a

-- and it shows no less: rings whose screens are alike agree in A, B, table and running marks
pub screen_tells : (ws vs : List ℕ) → reads_as_ring ws ≡ true → reads_as_ring vs ≡ true → conductor_of ws ≡ conductor_of vs
    → ((decode ws).table ≡ (decode vs).table) × ((x : ℕ) → is_running (decode ws) x ≡ is_running (decode vs) x)
screen_tells ws vs e f p = screens.screen_tells ws vs e f p

-- "exactly 5 times m of them"
pub messages_many : (ws : List ℕ) → reads_as_ring ws ≡ true → length (messages_of ws) ≡ 5 * length (decode ws).messages
messages_many ws e = screens.messages_many ws e

-- ---- the listener

-- "In every list of calls from an empty record": each of these is of any list, of any length, refused calls included, and of any node
module _ (cs : List listener.Call) (s : ℕ) where
  -- "A watched stand not heard for its full window is noticed on exactly that tick": call i is the last to hear it before call k
  pub noticed_exactly : (i k : ℕ) → hearing_at cs s i ≡ true → i < k → Unheard cs s i k
      → notice_at cs s k ≡ (tick_at cs k && eqb (suc (ticks_between cs i k)) ((met cs (suc i)).window s))
  noticed_exactly i k h l u = listeners.noticed_exactly cs s i k h l u

  -- "once per silence"
  pub once_per_silence : (i k : ℕ) → hearing_at cs s i ≡ true → i < k → Unheard cs s i k
      → notices_between cs s i k ≡ (if ltb (ticks_between cs i k) ((met cs (suc i)).window s) then 0 else 1)
  once_per_silence i k h l u = listeners.once_per_silence cs s i k h l u

  -- "a stand with fewer ticks after each hearing, up to the next one or the list's end, than its window, the first watching counted as a
  -- hearing, is never noticed", and only such a stand
  pub never_noticed :
      ((k : ℕ) → notice_at cs s k ≡ false)
      ↔ ((i k : ℕ) → hearing_at cs s i ≡ true → i < k → Unheard cs s i k → ticks_between cs i k < (met cs (suc i)).window s)
  never_noticed = listeners.never_noticed cs s

  -- "starts with .. window 4": until the first notice it is 4, so fewer than four ticks will do, and are needed
  pub four_until_noticed : (k : ℕ) → ((j : ℕ) → j < k → notice_at cs s j ≡ false) → watched_before cs s k ≡ true → (met cs k).window s ≡ 4
  four_until_noticed k none e = listeners.four_until_noticed cs s k none e

  pub fewer_than_four :
      ((k : ℕ) → notice_at cs s k ≡ false)
      ↔ ((i k : ℕ) → hearing_at cs s i ≡ true → i < k → Unheard cs s i k → ticks_between cs i k < 4)
  fewer_than_four = listeners.fewer_than_four cs s

  -- "If it had been noticed, that is, its silence had reached its window": the two are the same, and no silence passes its window
  pub noticed_is_silent : (k : ℕ) → watched_before cs s k ≡ true
      → (noticed_before cs s k ≡ silent (met cs k) s) × (noticed_before cs s k ≡ eqb ((met cs k).silence s) ((met cs k).window s))
  noticed_is_silent k e = listeners.noticed_is_silent cs s k e

  -- "the window also grows by 1, up to 255": on exactly the hearings after a notice; it never falls
  pub window_grows : (k : ℕ) → watched_before cs s k ≡ true
      → (met cs (suc k)).window s ≡ (if hearing_at cs s k && noticed_before cs s k then grown ((met cs k).window s) else (met cs k).window s)
  window_grows k e = listeners.window_grows cs s k e

  pub window_bounds : (k : ℕ) → watched_before cs s k ≡ true → (4 ≤ (met cs k).window s) × ((met cs k).window s ≤ 255)
  window_bounds k e = listeners.window_bounds cs s k e

  pub window_never_falls : (j k : ℕ) → j ≤ k → (met cs j).window s ≤ (met cs k).window s
  window_never_falls j k l = listeners.window_never_falls cs s j k l

  -- the record tells who is watched; such a node has a last hearing, so that the above speaks of every call that meets it watched
  pub met_watched : (k : ℕ) → (met cs k).watched s ≡ watched_before cs s k
  met_watched k = listeners.met_watched cs s k

  pub last_hearing : (k : ℕ) → watched_before cs s k ≡ true → (i : ℕ) × (i < k) × (hearing_at cs s i ≡ true) × Unheard cs s i k
  last_hearing k e = listeners.last_hearing cs s k e

  -- and any other has silence 0 and window 0, and no notice
  pub met_unwatched : (k : ℕ) → watched_before cs s k ≡ false → ((met cs k).silence s ≡ 0) × ((met cs k).window s ≡ 0)
  met_unwatched k e = listeners.met_unwatched cs s k e

  pub unwatched_unnoticed : (k : ℕ) → watched_before cs s k ≡ false → notice_at cs s k ≡ false
  unwatched_unnoticed k e = listeners.unwatched_unnoticed cs s k e

-- "A refused call gives no notice and leaves the record."
pub refused_leaves : (l : Listener) (c : listener.Call) → is_accepted (answer_of l c) ≡ false → (leaves l c ≡ l) × (notices_of l c ≡ empty)
refused_leaves l c e = listeners.refused_leaves l c e

-- "an empty record" is all 0 by value; and the record by value, on which the code works, is what any list of calls leaves
pub empty_by_value : listener_of empty_record ≡ empty_listener
empty_by_value = listeners.empty_by_value

pub list_by_value : (cs : List listener.Call) → listener_of (after_record empty_record cs) ≡ listener.after empty_listener cs
list_by_value cs = listeners.list_by_value cs

-- ---- the short ring

-- "Its length follows from n and m."
pub short_length_lem : (ws : List ℕ) → reads_as_ring ws ≡ true → length (shortened ws) ≡ 1 + 2 * (size_in ws * size_in ws) + 5 * count_in ws
short_length_lem ws e = short.shortened_length ws e

-- the short form of a ring reads as a short ring
pub short_reads : (ws : List ℕ) → reads_as_ring ws ≡ true → reads_as_short (shortened ws) ≡ true
short_reads ws e = short.short_reads ws e

-- "A ring turned short and back is itself": whatever the long buffer held
pub short_and_back :
    (ws old : List ℕ) → reads_as_ring ws ≡ true → length old ≡ ring_length → lengthen_buffer (shortened ws) old ≡ record { answer = 0; words = ws }
short_and_back ws old e l = short.lengthen_shortened ws old e l

-- "and so is a short ring made long and short again": in any place that is long enough
pub long_and_back :
    (edition place : List ℕ) → reads_as_short edition ≡ true → length edition ≤ length place
    → shorten_buffer (lengthened edition) place ≡ record { answer = 0; length = length edition; place = edition ++ drop (length edition) place }
long_and_back edition place e l = short.shorten_lengthened edition place e l

-- "Two rings have equal short forms only if equal."
pub short_tells : (ws vs : List ℕ) → reads_as_ring ws ≡ true → reads_as_ring vs ≡ true → shortened ws ≡ shortened vs → ws ≡ vs
short_tells ws vs e f p = short.short_tells ws vs e f p

-- "A word belonging to no stand, pair or message is wholly 0."
pub none_belongs : (r : Ring) (i : ℕ) → belongs (size r.table) (length r.messages) i ≡ false → word_at r i ≡ 0
none_belongs r i f = short.none_belongs r i f

-- ---- joins

module _ (first second third : List ℕ) (a : (join_buffer first second third).answer ≡ 0) where
  -- "The result goes to a third buffer": an accepted join writes the encoding of the join, which reads as a ring, and as that ring
  pub join_writes : (join_buffer first second third).words ≡ encode (join (decode first) (decode second))
  unfolding join_buffer
  join_writes = joins.accepted_words first second third a

  pub join_reads : reads_as_ring (join_buffer first second third).words ≡ true
  unfolding join_buffer
  join_reads = joins.join_reads first second third a

  pub join_decodes : decode (join_buffer first second third).words ≡ join (decode first) (decode second)
  unfolding join_buffer
  join_decodes = joins.join_decodes first second third a

  -- its sources read as rings, and neither 14 nor 15 nor 16 applies to these
  pub join_sources : (reads_as_ring first ≡ true) × (reads_as_ring second ≡ true) × Joinable (decode first) (decode second)
  unfolding join_buffer
  join_sources = (joins.first_reads_lem first second third a, joins.second_reads first second third a, joins.joinable first second third a)

  -- "Two stands are connected in it exactly when they came from one ring and were connected there."
  pub join_connects : (x y : ℕ) → Connected (decode (join_buffer first second third).words) x y ↔ FromOneRing (decode first) (decode second) x y
  join_connects x y =
      rw join_decodes (joined-groups.connected_in_join (decode first) (decode second) (decoded.reads_well first join_sources.0) x y)

  -- so the groups of the two are its groups
  pub join_groups : groups (decode (join_buffer first second third).words) ≡ groups (decode first) + groups (decode second)
  join_groups =
      ap groups join_decodes
      ∙ joined-groups.groups_of_join (decode first) (decode second)
      (decoded.reads_well first join_sources.0) (decoded.reads_well second join_sources.1) join_sources.2

  -- nothing is lost: taken apart at the first's n and m, it gives back the two
  pub join_first_back :
      first_part (size (decode first).table) (length (decode first).messages) (decode (join_buffer first second third).words) ≡ decode first
  join_first_back =
      ap (first_part _ _) join_decodes ∙ parted.first_back (decode first) (decode second) (decoded.reads_well first join_sources.0)

  pub join_second_back :
      second_part (size (decode first).table) (length (decode first).messages) (decode (join_buffer first second third).words) ≡ decode second
  join_second_back =
      ap (second_part _ _) join_decodes
      ∙ parted.second_back (decode first) (decode second) (decoded.reads_well second join_sources.1) join_sources.2

-- the join of well-formed rings to which neither 14 nor 15 nor 16 applies is well-formed
pub join_well_formed : (r s : Ring) → WellFormed r → WellFormed s → Joinable r s → WellFormed (join r s)
join_well_formed r s g h may = joins.joined_well r s g h may

-- a join is accepted where its sources read as rings, the third buffer has the length of one, and neither 14 nor 15 nor 16 applies
pub join_accepted :
    (first second third : List ℕ) → reads_as_ring first ≡ true → reads_as_ring second ≡ true → length third ≡ ring_length
    → Joinable (decode first) (decode second)
    → (join_buffer first second third).answer ≡ 0
unfolding join_buffer
join_accepted first second third e f l may = joins.accepts first second third e f l may

-- "nothing is written" by a refused join
pub refused_join :
    (first second third : List ℕ) → is_accepted (join_buffer first second third).answer ≡ false
    → (join_buffer first second third).words ≡ third
unfolding join_buffer
refused_join first second third e = rw e

-- of the third buffer only the length matters
pub join_over :
    (first second third other : List ℕ) → length third ≡ length other
    → (join_buffer first second third).answer ≡ (join_buffer first second other).answer
unfolding join_buffer
join_over first second third other e = joins.third_length first second third other e

-- ---- demand 3

-- words that were reached read as a ring
pub reached_reads : (start : List ℕ) (r : Ring) → Reached start r → reads_as_ring start ≡ true
reached_reads start r p = preserved.reached_reads p

-- a list leaves a ring that was reached, so that another may go on from it
pub list_reaches : (start : List ℕ) (r : Ring) → Reached start r → (words : List ℕ) → Reached (play_buffer_all start words) (play_all r words)
list_reaches start r p words = preserved.list_reaches p words

-- demand 3, from every ring that was reached
pub connectivity_preserved : ConnectivityPreserved
connectivity_preserved = preserved.connectivity_preserved

-- demand 3 in document 01's words: a list "starts from the ring that an accepted opening writes", for any A, B and keys
pub opening_preserves :
    (old : List ℕ) (t : Table) → (open_buffer old t).answer ≡ 0
    → (words : List ℕ) → Unbroken (open_buffer old t).words words (initial t)
opening_preserves old t a words = connectivity_preserved (open_buffer old t).words (initial t) (opened old t a) words

-- "A list of events may from now on start from a join of rings that such lists reached": the sources may themselves be joins
pub joining_preserves :
    (first second : List ℕ) (r s : Ring) → Reached first r → Reached second s
    → (third : List ℕ) → (join_buffer first second third).answer ≡ 0
    → (words : List ℕ) → Unbroken (join_buffer first second third).words words (join r s)
joining_preserves first second r s p q third a words =
    connectivity_preserved (join_buffer first second third).words (join r s) (joined p q third a) words

-- but not from any words that read as a ring, joined or not
pub reading_is_not_enough : ¬ ((ws words : List ℕ) → reads_as_ring ws ≡ true → Unbroken ws words (decode ws))
reading_is_not_enough = unreached.reading_is_not_enough
