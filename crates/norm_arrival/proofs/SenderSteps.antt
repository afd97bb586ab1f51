-- A sender of one instance that was given objects and marks alone: what its order has, and what is asked for, along its steps.
use Rattle.std.proofs.Common.{◌≡◌, ℕ, List, [], ◌∷◌, ◌++◌, length, map, Bool, true, false, Option, None, Some, Result, Ok, Err, refl, sym, ap, ◌∙◌, subst}
use Rattle.std.specs.Prelude.{nat_le, ⊤}
use Rattle.std.specs.List.{AllByRecursion}
use Rattle.norm_base.specs.Members.{receivers_of}
use Rattle.norm_base.specs.Settings.{Settings, InRange}
use Rattle.norm_base.specs.declared.kinds.Kind.TheVariants as kind
use Rattle.norm_base.specs.declared.node.Origin.{Origin}
use Rattle.fec_plan.specs.declared.position.Position.{Position}
use Rattle.norm_ext.specs.Reading.{decoded}
use Rattle.norm_order.specs.Entries.{Object, Whole, Entry}
use Rattle.norm_order.specs.Shapes.{Shape, shape_of, shapes_of, last_source}
use Rattle.norm_send_rules.specs.SenderState.{SenderState, Instance, unlisted, sender_opening}
use Rattle.norm_send_rules.specs.SenderStep as sender
use Rattle.norm_send_rules.specs.InWindow.{current_shapes}
use Rattle.norm_send_rules.specs.Watermarks.{open_watermarks}
use Rattle.norm_send_rules.specs.Enqueuing.{object_fault, joined}
use Rattle.norm_send_rules.specs.Streaming.{cut}
use Rattle.norm_send_rules.specs.Marking.{most_open, watermark_at, with_watermark}
use Rattle.norm_send_rules.specs.Commanding.{answered, commanded}
use Rattle.norm_send_rules.specs.Hearing.{heard}
use Rattle.norm_send_rules.specs.Reached.{IsReached}
use Rattle.norm_send_rules.specs.Telling.{told}
use Rattle.norm_send_rules.specs.Ticking.{ticked}
use Rattle.norm_send_rules.specs.declared.fault.EnqueueFault.{EnqueueFault}
use Rattle.norm_send_rules.specs.declared.fault.MarkFault.{MarkFault}
use Rattle.norm_send_rules.specs.declared.fault.SendFault.{SendFault}
use Rattle.norm_send_rules.specs.declared.fault.SendFault.TheVariants.{Enqueue, Mark}
use Rattle.norm_send_rules.specs.declared.job.Job.{Job}
use Rattle.norm_send_rules.specs.declared.job.Job.TheVariants as job
use Rattle.norm_send_rules.specs.declared.job.Receipt.{Receipt}
use Rattle.norm_send_rules.specs.declared.news.News.{News}
use Rattle.norm_send_rules.proofs.ReachedLemmas.{reached_laws}
use Rattle.norm_send_rules.proofs.RefusedLemmas.{refused_leaves}
use Rattle.norm_send_rules.proofs.WantLemmas.{either}
use Rattle.norm_safety.proofs.SenderKeeps.{Keeps, nodes_in, heard_keeps, ticked_keeps, told_keeps}
use Rattle.norm_safety.proofs.CommandSteps.{marked_keeps}
use Rattle.norm_journal.specs.Counts.{is_expired}
use Rattle.norm_journal.specs.declared.event.Event.TheVariants as event
use Rattle.norm_laws.proofs.WholeOrders.{IsWhole, AreWhole, none_open, cut_nothing}
use Rattle.norm_arrival.proofs.BookSteps.{Book, marked_book, tick_book, heard_book, told_book}

-- the objects of an order
abbrev pub objects_in : List Entry → List Object
objects_in order = map (λ (x : Entry). x.object) order

-- A sender is in its first instance, whose order has these objects; this is asked for; and its members are all receivers.
pub record Orderly (p : Settings) (objects : List Object) (asked : List (Option Position)) (s : SenderState) : Type 0 where
  pub earlier : s.earlier ≡ []
  pub id : s.current.id ≡ p.instance
  pub order : objects_in s.current.order ≡ objects
  pub book : Book (receivers_of p p.receivers) asked s
  pub reached : IsReached p s

-- ---- steps that leave the order

keeps_orderly : (p : Settings) (objects : List Object) (asked : List (Option Position)) (s t : SenderState) → Keeps s t
    → Book (receivers_of p p.receivers) asked t → IsReached p t → Orderly p objects asked s → Orderly p objects asked t
keeps_orderly p objects asked s t keeps book reached h = record {
  earlier = keeps.earlier ∙ h.earlier;
  id = ap (λ (i : Instance). i.id) keeps.current ∙ h.id;
  order = ap (λ (i : Instance). objects_in i.order) keeps.current ∙ h.order;
  book = book;
  reached = reached;
}

pub heard_orderly : (p : Settings) → InRange p → (objects : List Object) (asked : List (Option Position)) (s : SenderState) (bytes : List ℕ) (now : ℕ)
    → Orderly p objects asked s → Orderly p objects asked (heard p s bytes now)
heard_orderly p range objects asked s bytes now h =
    keeps_orderly p objects asked s (heard p s bytes now) (heard_keeps p s bytes now)
    (heard_book (receivers_of p p.receivers) asked p s now (decoded bytes) h.book) (reached_laws.always p s (sender.Delivered bytes now) range h.reached) h

pub ticked_orderly : (p : Settings) → InRange p → (objects : List Object) (asked : List (Option Position)) (s : SenderState) (now : ℕ)
    → Orderly p objects asked s → Orderly p objects asked (ticked p s now).0
ticked_orderly p range objects asked s now h =
    keeps_orderly p objects asked s (ticked p s now).0 (ticked_keeps p s now)
    (tick_book (receivers_of p p.receivers) asked p s now h.book) (reached_laws.always p s (sender.Ticked now) range h.reached) h

pub told_orderly : (p : Settings) → InRange p → (objects : List Object) (asked : List (Option Position)) (s : SenderState) (news : News)
    → (told s).1 ≡ Some news → is_expired (event.News news) ≡ false → Orderly p objects asked s → Orderly p objects asked (told s).0
told_orderly p range objects asked s news is not_it h =
    keeps_orderly p objects asked s (told s).0 (told_keeps s)
    (told_book (receivers_of p p.receivers) asked s news h.reached.book.numbered is not_it h.book) (reached_laws.always p s sender.NewsAsked range h.reached) h

-- ---- commands

-- an object with what a command brings
abbrev pub objects_with : Job → List Object → List Object
objects_with (job.Data info bytes) objects = objects ++ Whole kind.Data info bytes ∷ []
objects_with (job.File name bytes) objects = objects ++ Whole kind.File (Some name) bytes ∷ []
objects_with _ objects = objects

-- what is asked for, with what a command asks for
abbrev pub asked_with : Settings → Job → List Object → List (Option Position) → List (Option Position)
asked_with p (job.Mark quorum) objects asked = asked ++ last_source (map (shape_of p) objects) ∷ []
asked_with p _ objects asked = asked

-- data, a file, or a mark of all members
abbrev pub IsPlain : Job → Type 0
IsPlain (job.Data info bytes) = ⊤
IsPlain (job.File name bytes) = ⊤
IsPlain (job.Mark None) = ⊤
IsPlain _ = ⊥

-- objects without streams
abbrev pub ObjectsWhole : List Object → Type 0
ObjectsWhole objects = AllByRecursion IsWhole objects

whole_order : (order : List Entry) → ObjectsWhole (objects_in order) → AreWhole order
whole_order [] all = tt
whole_order (x ∷ order) all = (all.0, whole_order order all.1)

pub order_is_whole : (p : Settings) (objects : List Object) (asked : List (Option Position)) (s : SenderState) → Orderly p objects asked s → ObjectsWhole objects
    → AreWhole s.current.order
order_is_whole p objects asked s h whole =
    let W : List Object → Type 0 = λ os. ObjectsWhole os in whole_order s.current.order (subst W (sym h.order) whole)

nothing_cut : (p : Settings) (objects : List Object) (asked : List (Option Position)) (s : SenderState) → Orderly p objects asked s → ObjectsWhole objects
    → cut p s ≡ s
nothing_cut p objects asked s h whole = cut_nothing p s (none_open s.current.order (order_is_whole p objects asked s h whole))

-- a command that is refused changes nothing
pub refused_same : (p : Settings) (objects : List Object) (asked : List (Option Position)) (s : SenderState) (by : Origin) (job : Job) (fault : SendFault) → IsPlain job
    → ObjectsWhole objects → Orderly p objects asked s → (commanded p s by job).1 ≡ Err fault → (commanded p s by job).0 ≡ s
refused_same p objects asked s by (job.Data info bytes) fault plain whole h e = refused_leaves p s by (job.Data info bytes) fault e
refused_same p objects asked s by (job.File name bytes) fault plain whole h e = refused_leaves p s by (job.File name bytes) fault e
refused_same p objects asked s by (job.Mark None) fault plain whole h e =
    refused_leaves p s by (job.Mark None) fault e ∙ nothing_cut p objects asked s h whole
refused_same p objects asked s by _ fault plain whole h e = absurd plain

-- an object joins
objects_more : (order : List Entry) (x : Entry) → objects_in (order ++ x ∷ []) ≡ objects_in order ++ x.object ∷ []
objects_more [] x = refl
objects_more (y ∷ order) x = ap (λ (os : List Object). y.object ∷ os) (objects_more order x)

-- what an object that joins leaves
record Joins (object : Object) (s t : SenderState) : Type 0 where
  earlier : t.earlier ≡ s.earlier
  id : t.current.id ≡ s.current.id
  order : objects_in t.current.order ≡ objects_in s.current.order ++ object ∷ []
  book : (nodes : List ℕ) (asked : List (Option Position)) → Book nodes asked s → Book nodes asked t

joined_joins : (p : Settings) (by : Origin) (object : Object) (s : SenderState) → Joins object s (joined p by object s)
joined_joins p by object s = record {
  earlier = refl;
  id = refl;
  order = objects_more s.current.order (record { by = by; object = object });
  book = λ nodes asked h. record { members = h.members; asks = h.asks; well = h.well };
}

err_ok : {F R : Type 0} (fault : F) (receipt : R) → ◌≡◌ {A = Result R F} (Err fault) (Ok receipt) → ⊥
err_ok fault receipt e = cc

-- an object is enqueued unless a fault was found, with this answer
abbrev enqueues : Settings → SenderState → Origin → Object → Option EnqueueFault → Result Receipt EnqueueFault → SenderState × Result Receipt EnqueueFault
enqueues p s by object found gave = elim found [ Some fault ↦ (s, Err fault) | None ↦ (joined p by object s, gave) ]

enqueued_joins : (p : Settings) (s : SenderState) (by : Origin) (object : Object) (found : Option EnqueueFault) (gave : Result Receipt EnqueueFault) (receipt : Receipt)
    → (answered Enqueue (enqueues p s by object found gave)).1 ≡ Ok receipt → Joins object s (answered Enqueue (enqueues p s by object found gave)).0
enqueued_joins p s by object (Some fault) gave receipt e = absurd (err_ok (Enqueue fault) receipt e)
enqueued_joins p s by object None gave receipt e = joined_joins p by object s

-- what a mark that is made leaves
record Marks (found : Option Position) (s t : SenderState) : Type 0 where
  earlier : t.earlier ≡ s.earlier
  current : t.current ≡ s.current
  book : (nodes : List ℕ) (asked : List (Option Position)) → Book nodes asked s → Book nodes (asked ++ found ∷ []) t

marked_marks : (s : SenderState) (by : Origin) (at : Position) → Marks (Some at) s (with_watermark s by None at)
marked_marks s by at =
    let keeps = marked_keeps by s None at in
    record { earlier = keeps.earlier; current = keeps.current; book = λ nodes asked h. marked_book nodes asked s by at h }

mark_made : (s : SenderState) (by : Origin) (found : Option Position) (receipt : Receipt) → (answered Mark (watermark_at s by None found)).1 ≡ Ok receipt
    → Marks found s (answered Mark (watermark_at s by None found)).0
mark_made s by None receipt e = absurd (err_ok _ receipt e)
mark_made s by (Some at) receipt e = go (nat_le most_open (length (open_watermarks s))) _ _ e
  where
    go : (many : Bool) (refused : MarkFault) (gave : Result Receipt MarkFault)
        → (answered Mark (either many (s, Err refused) (with_watermark s by None at, gave))).1 ≡ Ok receipt
        → Marks (Some at) s (answered Mark (either many (s, Err refused) (with_watermark s by None at, gave))).0
    go true refused gave e = absurd (err_ok (Mark refused) receipt e)
    go false refused gave e = marked_marks s by at

pub shapes_of_objects : (p : Settings) (order : List Entry) → shapes_of p order ≡ map (shape_of p) (objects_in order)
shapes_of_objects p [] = refl
shapes_of_objects p (x ∷ order) = ap (λ (shapes : List Shape). shape_of p x.object ∷ shapes) (shapes_of_objects p order)

joins_orderly : (p : Settings) (objects : List Object) (asked : List (Option Position)) (object : Object) (s t : SenderState) → Joins object s t → IsReached p t
    → Orderly p objects asked s → Orderly p (objects ++ object ∷ []) asked t
joins_orderly p objects asked object s t joins reached h = record {
  earlier = joins.earlier ∙ h.earlier;
  id = joins.id ∙ h.id;
  order = joins.order ∙ ap (λ (os : List Object). os ++ object ∷ []) h.order;
  book = joins.book (receivers_of p p.receivers) asked h.book;
  reached = reached;
}

mark_orderly : (p : Settings) (objects : List Object) (asked : List (Option Position)) (s : SenderState) (by : Origin) (receipt : Receipt) → ObjectsWhole objects
    → (commanded p s by (job.Mark None)).1 ≡ Ok receipt → IsReached p (commanded p s by (job.Mark None)).0 → Orderly p objects asked s
    → Orderly p objects (asked ++ last_source (map (shape_of p) objects) ∷ []) (commanded p s by (job.Mark None)).0
mark_orderly p objects asked s by receipt whole e reached h =
    let step : SenderState → SenderState × Result Receipt SendFault =
    λ t. answered Mark (watermark_at t by None (last_source (current_shapes p t))) in
    let same = nothing_cut p objects asked s h whole in
    let M : SenderState → Type 0 = λ t. (step t).1 ≡ Ok receipt → Marks (last_source (current_shapes p s)) s (step t).0 in
    let marks : Marks (last_source (current_shapes p s)) s (step (cut p s)).0 =
    subst M (sym same) (λ own. mark_made s by (last_source (current_shapes p s)) receipt own) e in
    let last : last_source (current_shapes p s) ≡ last_source (map (shape_of p) objects) =
    ap last_source (shapes_of_objects p s.current.order ∙ ap (λ (os : List Object). map (shape_of p) os) h.order) in
    let B : Option Position → Type 0 = λ found. Book (receivers_of p p.receivers) (asked ++ found ∷ []) (step (cut p s)).0 in
    record {
      earlier = marks.earlier ∙ h.earlier;
      id = ap (λ (i : Instance). i.id) marks.current ∙ h.id;
      order = ap (λ (i : Instance). objects_in i.order) marks.current ∙ h.order;
      book = subst B last (marks.book (receivers_of p p.receivers) asked h.book);
      reached = reached;
    }

-- a command that is accepted brings what it says
pub accepted_orderly : (p : Settings) → InRange p → (objects : List Object) (asked : List (Option Position)) (s : SenderState) (by : Origin) (job : Job) (now : ℕ)
    (receipt : Receipt) → IsPlain job → ObjectsWhole objects → (commanded p s by job).1 ≡ Ok receipt → Orderly p objects asked s
    → Orderly p (objects_with job objects) (asked_with p job objects asked) (commanded p s by job).0
accepted_orderly p range objects asked s by (job.Data info bytes) now receipt plain whole e h =
    let object : Object = Whole kind.Data info bytes in
    joins_orderly p objects asked object s (commanded p s by (job.Data info bytes)).0
    (enqueued_joins p s by object (object_fault p s info bytes) _ receipt e)
    (reached_laws.always p s (sender.Commanded by (job.Data info bytes) now) range h.reached) h
accepted_orderly p range objects asked s by (job.File name bytes) now receipt plain whole e h =
    let object : Object = Whole kind.File (Some name) bytes in
    joins_orderly p objects asked object s (commanded p s by (job.File name bytes)).0
    (enqueued_joins p s by object (object_fault p s (Some name) bytes) _ receipt e)
    (reached_laws.always p s (sender.Commanded by (job.File name bytes) now) range h.reached) h
accepted_orderly p range objects asked s by (job.Mark None) now receipt plain whole e h =
    mark_orderly p objects asked s by receipt whole e (reached_laws.always p s (sender.Commanded by (job.Mark None) now) range h.reached) h
accepted_orderly p range objects asked s by _ now receipt plain whole e h = absurd plain

-- ---- the opening

unlisted_nodes : (nodes : List ℕ) → nodes_in (unlisted nodes) ≡ nodes
unlisted_nodes [] = refl
unlisted_nodes (node ∷ nodes) = ap (λ (ns : List ℕ). node ∷ ns) (unlisted_nodes nodes)

pub opening_orderly : (p : Settings) → InRange p → Orderly p [] [] (sender_opening p p.instance)
opening_orderly p range = record {
  earlier = refl;
  id = refl;
  order = refl;
  book = record { members = unlisted_nodes (receivers_of p p.receivers); asks = refl; well = tt };
  reached = reached_laws.at_first p p.instance range;
}
