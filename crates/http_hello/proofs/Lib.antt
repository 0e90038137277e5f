mod ExchangeLemmas
mod FieldLemmas
mod RequestLemmas
