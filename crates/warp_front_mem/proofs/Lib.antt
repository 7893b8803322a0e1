mod KitLemmas
