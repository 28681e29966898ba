pub mod SocketLemmas
pub mod SocketsLemmas
pub mod TrafficLemmas
