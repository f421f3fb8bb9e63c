mod SaidLemmas
mod ReadLemmas
mod ResolvedLemmas
mod LineThatCountsLemmas
