mod FarewellLemmas
mod CarrierLemmas
mod HostLemmas
