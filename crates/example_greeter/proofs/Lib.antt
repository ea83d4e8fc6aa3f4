pub mod GreetingLemmas
