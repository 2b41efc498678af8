pub mod Flights
