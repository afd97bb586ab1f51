-- What stands under a network and a sink that are watched.
use Rattle.norm_watch.specs.declared.fabric.WatchedFabric.{WatchedFabric}
use Rattle.norm_watch.specs.declared.sink.WatchedSink.{WatchedSink}

-- the network under one that is watched
abbrev pub watched_by : {R F : Type 0} → WatchedFabric R F → F
watched_by w = w.fabric

-- the sink under one that is watched
abbrev pub watched_in : {R K T : Type 0} → WatchedSink R K T → K
watched_in w = w.sink
