-- Each file of an order has an info, which is its name (RFC 5740 section 4.2.1 on NORM_INFO).
use Rattle.std.specs.Prelude.{◌≡◌, ℕ, List, Some, ⊤}
use Rattle.std.specs.List.{AllByRecursion}
use Rattle.norm_base.specs.Settings.{Settings}
use Rattle.norm_base.specs.declared.kinds.Kind.TheVariants as kind
use Rattle.norm_order.specs.Entries.{Object, Whole, Stream, Entry}
use Rattle.norm_safety.specs.Events.{Event}
use Rattle.norm_safety.specs.History.{History, history}
use Rattle.norm_safety.specs.OnceEach.{order_of}

-- a file has a name; of data and streams nothing is said
abbrev pub HasName : Object → Type 0
HasName (Whole kind.File info octets) = (name : List ℕ) × (info ≡ Some name)
HasName (Whole kind.Data info octets) = ⊤
HasName (Stream parts) = ⊤

-- each file of each instance's order has one
abbrev pub FilesHaveNames : History → Type 0
FilesHaveNames h = (id : ℕ) → AllByRecursion (λ (x : Entry). HasName x.object) (order_of h.now.sender id)

-- so it is in each run
abbrev pub FilesHaveNamesInRuns : Type 0
FilesHaveNamesInRuns = (p : Settings) (events : List Event) → FilesHaveNames (history p events)
