mod LedLemmas
