-- A request that is lent, as what it says.
use Rattle.norm_ext.specs.Requests.{Request, items_of}
use Rattle.norm_ext.specs.declared.requests.Request.{Request as Lent}

abbrev pub request_of : Lent → Request
request_of r = record { form = r.form; flags = r.flags; items = items_of r.items.now }
